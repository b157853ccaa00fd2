use Rattle.std.proofs.Common.{ℤ, List, Some, length}
use Rattle.tda_model.specs.Spine.{children_of}
use Rattle.tda_invar.specs.Known.{JoinedLists}
use Rattle.tda_loss.specs.declared.Curve.{Curve}
use Rattle.tda_out.specs.Counts.{count_at}
use Rattle.tda_fitnet.specs.Inputs.{inputs_of}
use Rattle.tda_prices.specs.Items.{Pricing}
use Rattle.tda_audit.specs.Certified.{level_groups}
use Rattle.tda_audit.specs.Prices.{AreGiverPrices, AreChildPrices}
use Rattle.tda_audit.specs.Verdicts.{give_names}
use Rattle.tda_audit.proofs.ArcWalks.{NoUnitInto}
use Rattle.tda_audit.proofs.fits.wrong_child_give.Given as goal

abbrev pub invariant-loop-number : goal.invariant-loop-number
invariant-loop-number l =
    (inv : JoinedLists) (m : List ℤ) (c : Curve) (price : Pricing) → AreGiverPrices l.schema price (Some l.parent) l.givers → AreChildPrices l.spine price l.parent (length l.tree.groups) l.groups
    → NoUnitInto (inputs_of l.schema l.spine inv m) (level_groups l.schema) c (count_at l.tables) price (Some l.parent) (give_names (inputs_of l.schema l.spine inv m) (level_groups l.schema)) (children_of l.spine l.parent) l.number
