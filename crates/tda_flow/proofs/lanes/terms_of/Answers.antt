use Rattle.std.proofs.Common.{arith}
use Rattle.tda_flow.proofs.Cuts.{in_order-at}
use Rattle.tda_flow.proofs.lanes.terms_of.Goals as goal

pub returns-clause-order : goal.returns-clause-order
returns-clause-order c =
    let at = in_order-at c.args.lanes.now c.args.i c.args.count c.requires.order c.requires.lane in
    omega (arith, at.0, c.end_of.ensures)

pub returns-clause-within : goal.returns-clause-within
returns-clause-within c =
    let at = in_order-at c.args.lanes.now c.args.i c.args.count c.requires.order c.requires.lane in
    omega (arith, at.1, c.end_of.ensures)
