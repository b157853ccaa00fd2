use Rattle.std.proofs.Common.{refl, arith}
use Rattle.tda_scale.specs.Slopes.{slope_at}
use Rattle.tda_scale.specs.Searching.{price_of}
use Rattle.tda_scale.proofs.Adjusting.{gap_is}
use Rattle.tda_scale.proofs.Warming.{settled_arc, flow_reached}
use Rattle.tda_scale.proofs.warm.settle_arc.Goals as goal

pub returns-clause-kept : goal.returns-clause-kept
returns-clause-kept c =
    let p = price_of c.args.spots.now in
    let arc = c.arc-arc.result in
    settled_arc c.args.body.now.net.now (slope_at c.args.body.now.slopes.now c.args.i) c.args.i c.least_flow-least.result c.send.new.flow p (price_of c.send.new.spots) arc _
    c.arc-arc.ensures.value (gap_is c.gap_at.result (p arc.to) (p arc.from) c.gap_at.ensures.near c.gap_at.ensures.value) c.send.ensures.shift.price (c.requires.body.each c.args.i c.requires.arc)
    (flow_reached c.args.i _ c.least_flow-least.result c.abs_diff.result c.args.flow.now c.send.new.flow (let f = c.requires.tracked.flows in let l = c.requires.arc in omega arith) refl c.abs_diff.ensures c.send.ensures.flow)
    c.least_flow-least.ensures.up c.least_flow-least.ensures.down
