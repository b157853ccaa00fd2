use Rattle.std.proofs.Common.{arith}
use Rattle.tda_loss.specs.Curve.{value_of}
use Rattle.tda_descent.proofs.Values.{arc_none, arc_more, arc_all}
use Rattle.tda_descent.proofs.deviation.arc_deviation.Goals as goal

pub loop-term-init : goal.loop-term-init
loop-term-init g c = arc_none (value_of c.args.loss.now.curve) c.args.terms.now c.args.x

pub loop-term-preserved : goal.loop-term-preserved
loop-term-preserved g c =
    arc_more (value_of c.args.loss.now.curve) c.args.terms.now c.args.x c.loop-term.term-index c.loop-term.sum c.term_deviation-sum.result c.loop-term.invariant
    c.term_deviation-sum.ensures.value c.term_deviation-sum.ensures.limit

pub returns-clause-value : goal.returns-clause-value
returns-clause-value g c = arc_all (value_of c.args.loss.now.curve) c.args.terms.now c.args.x c.loop-term.term-index c.loop-term.sum c.loop-term.invariant (omega arith)
