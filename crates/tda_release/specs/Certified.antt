-- A release with prices that certify it.
use Rattle.std.specs.Prelude.{ℕ, List, sum_by}
use Rattle.tda_model.specs.Spine.{unit_numbers}
use Rattle.tda_model.specs.Tables.{Tables}
use Rattle.tda_model.specs.Deviation.{square}
use Rattle.tda_model.specs.Release.{Inputs, IsRelease, deviation_at}
use Rattle.tda_loss.specs.declared.Curve.TheVariants.{Square}
use Rattle.tda_prices.specs.Items.{Pricing, prices_of}
use Rattle.tda_prices.specs.PricesText.{prices_text, all_prices}
use Rattle.tda_audit.specs.Certified.{level_groups, Certifies}

-- the deviation of all units together
abbrev pub total_deviation : Inputs → Tables → ℕ
total_deviation i x = sum_by (λ u. deviation_at square i u (x u)) (unit_numbers i.spine)

-- tables that are a release over the inputs, and prices that certify them: an audit answers them Yes
pub record IsCertifiedRelease (i : Inputs) (x : Tables) (price : Pricing) : Type 0 where
  pub release : IsRelease square i x
  pub certified : Certifies Square i (level_groups i.schema) x price

-- the file of these prices
abbrev pub pricing_text : Inputs → Pricing → List ℕ
pricing_text i price = prices_text i.schema i.spine (all_prices i.spine (prices_of i.schema i.spine price))
