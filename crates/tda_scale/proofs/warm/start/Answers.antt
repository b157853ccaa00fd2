use Rattle.std.proofs.Common.{◌^◌}
use Rattle.tda_loss.specs.declared.Curve.TheVariants.{Square}
use Rattle.tda_loss.proofs.Laws.{IsCurve-value_of}
use Rattle.tda_scale.specs.Searching.{price_of}
use Rattle.tda_scale.specs.Phase.{square}
use Rattle.tda_scale.proofs.Phases.{priced_all}
use Rattle.tda_scale.proofs.Solved.{high_priced, power_some}
use Rattle.tda_scale.proofs.warm.start.Goals as goal

pub returns-then-are_warm-clause-priced : goal.returns-then-are_warm-clause-priced
returns-then-are_warm-clause-priced c =
    priced_all square (IsCurve-value_of Square).convex c.args.body.now.net.now (2 ^ c.warm.result) c.warm.new.flow (price_of c.warm.new.spots) (power_some c.warm.result) c.warm.ensures.priced

pub returns-else-are_warm-clause-priced : goal.returns-else-are_warm-clause-priced
returns-else-are_warm-clause-priced c =
    high_priced c.args.body.now.net.now c.args.flow.now c.args.spots.now (price_of c.args.spots.now) c.nodes-nodes.ensures.sound c.requires.tracked
