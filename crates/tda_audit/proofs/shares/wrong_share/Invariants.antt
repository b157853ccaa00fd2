use Rattle.std.proofs.Common.{◌≡◌, ℕ, ◌<◌, ℤ, List, None, get_or}
use Rattle.std.specs.List.{range_with_len}
use Rattle.tda_model.specs.Groups.{kind_count}
use Rattle.tda_model.specs.Schema.{Schema}
use Rattle.tda_model.specs.Spine.{Spine}
use Rattle.tda_model.specs.Tables.{Tables, kind_sum}
use Rattle.tda_invar.specs.Known.{IsJoined}
use Rattle.tda_loss.specs.declared.Curve.{Curve}
use Rattle.tda_fitnet.specs.declared.name.ArcName.TheVariants.{Share}
use Rattle.tda_fitnet.specs.Inputs.{inputs_of}
use Rattle.tda_prices.specs.Items.{OfState, Pricing}
use Rattle.tda_audit.specs.Certified.{level_groups}
use Rattle.tda_audit.specs.Prices.{AreGiverPrices}
use Rattle.tda_audit.proofs.ArcWalks.{NoArcInto}
use Rattle.tda_audit.proofs.shares.wrong_share.Given as goal

abbrev pub invariant-loop-kind : goal.invariant-loop-kind
invariant-loop-kind l =
    (s : Schema) (sp : Spine) (m : List ℤ) (c : Curve) (x : Tables) (price : Pricing) → IsJoined s sp l.inv
    → ((k : ℕ) → k < kind_count s → get_or l.persons k 0 ≡ kind_sum s k (x l.state)) → l.fn.from ≡ price None (OfState l.state) → AreGiverPrices s price None l.kinds
    → NoArcInto (inputs_of s sp l.inv m) (level_groups s) c x price None (Share l.state) (range_with_len 0 (kind_count s)) l.kind
