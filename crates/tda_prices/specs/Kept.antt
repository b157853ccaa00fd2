-- Prices as they are kept: those of all fits one after the other, and for each unit where those of its split begin.
use Rattle.std.specs.Prelude.{◌≡◌, ℕ, ℤ, List, length, All, slice_index, Some}
use Rattle.tda_model.specs.Schema.{Schema}
use Rattle.tda_model.specs.Spine.{Spine, parents_of}
use Rattle.tda_spine.specs.Judged.{fits_of}
use Rattle.tda_prices.specs.Priced.{prices_before}
use Rattle.tda_prices.specs.PricesText.{ArePrices}

pub record PriceList : Type 0 where
  pub numbers : List ℤ
  pub starts : List ℕ

-- the split at a unit begins where the prices of the fits before it end
abbrev pub BeginsThere : Schema → Spine → List ℕ → ℕ → Type 0
BeginsThere s sp starts u = slice_index starts u ≡ prices_before s sp (Some u) (fits_of sp)

-- prices of this spine's fits
pub record ArePricesOf (s : Schema) (sp : Spine) (p : PriceList) : Type 0 where
  pub prices : ArePrices s sp p.numbers
  pub units : length p.starts ≡ length sp.units
  pub splits : All (BeginsThere s sp p.starts) (parents_of sp)
