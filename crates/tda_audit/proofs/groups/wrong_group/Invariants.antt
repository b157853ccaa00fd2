use Rattle.std.specs.List.{range_with_len}
use Rattle.std.proofs.Common.{length}
use Rattle.tda_model.specs.Spine.{level_of}
use Rattle.tda_out.specs.Counts.{count_at}
use Rattle.tda_fitnet.specs.declared.name.ArcName.TheVariants.{Group}
use Rattle.tda_fitnet.specs.Inputs.{inputs_of}
use Rattle.tda_prices.specs.Items.{Pricing}
use Rattle.tda_audit.specs.Certified.{level_groups}
use Rattle.tda_audit.specs.Prices.{AreGroupPrices}
use Rattle.tda_audit.proofs.ArcWalks.{NoArcInto}
use Rattle.tda_audit.proofs.groups.wrong_group.Given as goal

abbrev pub invariant-loop-group : goal.invariant-loop-group
invariant-loop-group g l =
    (price : Pricing) → AreGroupPrices price l.fit l.unit l.groups
    → NoArcInto (inputs_of l.schema l.spine l.inv l.m) (level_groups l.schema) l.loss.curve (count_at l.tables) price l.fit (Group l.unit) (range_with_len 0 (length (level_groups l.schema (level_of l.spine l.unit)))) l.group
