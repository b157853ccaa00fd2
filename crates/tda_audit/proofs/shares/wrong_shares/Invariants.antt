use Rattle.std.proofs.Common.{◌≡◌, ℤ, List, None, length}
use Rattle.tda_model.specs.Groups.{kind_count}
use Rattle.tda_model.specs.Spine.{units_at}
use Rattle.tda_loss.specs.declared.Curve.{Curve}
use Rattle.tda_out.specs.Counts.{count_at}
use Rattle.tda_fitnet.specs.Inputs.{inputs_of}
use Rattle.tda_prices.specs.Items.{Pricing}
use Rattle.tda_audit.specs.Certified.{level_groups}
use Rattle.tda_audit.specs.Prices.{AreGiverPrices, AreStatePrices}
use Rattle.tda_audit.specs.Verdicts.{state_share_names}
use Rattle.tda_audit.proofs.ArcWalks.{NoUnitInto}
use Rattle.tda_audit.proofs.shares.wrong_shares.Given as goal

abbrev pub invariant-loop-n : goal.invariant-loop-n
invariant-loop-n l = record {
  size : length l.counts ≡ kind_count l.schema;
  before : (m : List ℤ) (c : Curve) (price : Pricing) → AreStatePrices l.spine price l.states → AreGiverPrices l.schema price None l.kinds
      → NoUnitInto (inputs_of l.schema l.spine l.inv m) (level_groups l.schema) c (count_at l.tables) price None (state_share_names l.schema) (units_at l.spine 1) l.n;
}
