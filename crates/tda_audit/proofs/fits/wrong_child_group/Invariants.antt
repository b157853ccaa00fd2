use Rattle.std.proofs.Common.{Some, length}
use Rattle.tda_model.specs.Spine.{children_of}
use Rattle.tda_out.specs.Counts.{count_at}
use Rattle.tda_fitnet.specs.Inputs.{inputs_of}
use Rattle.tda_prices.specs.Items.{Pricing}
use Rattle.tda_audit.specs.Certified.{level_groups}
use Rattle.tda_audit.specs.Prices.{AreChildPrices}
use Rattle.tda_audit.specs.Verdicts.{group_names}
use Rattle.tda_audit.proofs.ArcWalks.{NoUnitInto}
use Rattle.tda_audit.proofs.fits.wrong_child_group.Given as goal

abbrev pub invariant-loop-number : goal.invariant-loop-number
invariant-loop-number g l =
    (price : Pricing) → AreChildPrices l.spine price l.parent (length l.tree.groups) l.groups
    → NoUnitInto (inputs_of l.schema l.spine l.inv l.m) (level_groups l.schema) l.loss.curve (count_at l.tables) price (Some l.parent) (group_names (inputs_of l.schema l.spine l.inv l.m) (level_groups l.schema)) (children_of l.spine l.parent) l.number
