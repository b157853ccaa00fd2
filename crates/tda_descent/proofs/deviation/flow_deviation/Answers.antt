use Rattle.std.proofs.Common.{get_or, ap, ◌∙◌, arith}
use Rattle.tda_loss.specs.Curve.{value_of}
use Rattle.tda_flow.specs.Flow.{arc_cost}
use Rattle.tda_descent.proofs.Values.{flow_none, flow_more, flow_all}
use Rattle.tda_descent.proofs.deviation.flow_deviation.Goals as goal

pub loop-arc-init : goal.loop-arc-init
loop-arc-init g c = flow_none (value_of c.args.loss.now.curve) c.args.net.now c.args.flow.now

pub loop-arc-preserved : goal.loop-arc-preserved
loop-arc-preserved g c =
    let curve = value_of c.args.loss.now.curve in
    let x = get_or c.args.flow.now c.loop-arc.arc 0 in
    flow_more curve c.args.net.now c.args.flow.now c.loop-arc.arc c.loop-arc.sum c.arc_deviation-sum.result c.loop-arc.invariant
    (c.arc_deviation-sum.ensures.value ∙ ap (λ terms. arc_cost curve terms x) c.terms.ensures.value) c.arc_deviation-sum.ensures.limit

pub returns-clause-value : goal.returns-clause-value
returns-clause-value g c = flow_all (value_of c.args.loss.now.curve) c.args.net.now c.args.flow.now c.loop-arc.arc c.loop-arc.sum c.loop-arc.invariant (omega arith)
