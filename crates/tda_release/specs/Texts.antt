-- The files of tables and of prices, fit by fit.
use Rattle.std.specs.Prelude.{ℕ, ℤ, ◌≡◌, ◌≤◌, ◌+◌, ◌-◌, ◌^◌, ◌++◌, min, List, length, Ok, Result}
use Rattle.tda_io.specs.Texts.{row_text}
use Rattle.tda_model.specs.Schema.{Schema}
use Rattle.tda_model.specs.Spine.{Spine}
use Rattle.tda_model.specs.Tables.{Tables}
use Rattle.tda_model.specs.TablesText.{tables_header, tables_text}
use Rattle.tda_model.specs.Release.{Inputs}
use Rattle.tda_out.specs.Counts.{Counts, count_at}
use Rattle.tda_out.specs.Written.{units_text}
use Rattle.tda_loss.specs.declared.Curve.TheVariants.{Square}
use Rattle.tda_prices.specs.Items.{Pricing}
use Rattle.tda_prices.specs.Priced.{price_in}
use Rattle.tda_prices.specs.PricesText as prices
use Rattle.tda_prices.specs.PricesText.{header, fit_text}
use Rattle.tda_prices.specs.TablesRead as tables
use Rattle.tda_audit.specs.Answers.{IsVerdict}
use Rattle.tda_audit.specs.Certified.{level_groups, Certifies}
use Rattle.tda_audit.specs.declared.verdict.Verdict.TheVariants.{Yes}
use Rattle.tda_descent.specs.declared.fit.Fit.{Fit}
use Rattle.tda_release.specs.Certified.{IsCertifiedRelease, pricing_text, total_deviation}
use Rattle.tda_release.specs.declared.release.Texts.{Texts}

-- a sum of numbers of 128 bits, that stays at the greatest one
abbrev pub most_sum : ℕ → ℕ → ℕ
most_sum a b = min (a + b) (2 ^ 128 - 1)

-- the headers alone
pub record AreHeaders (t : Texts) : Type 0 where
  pub tables : t.tables.items ≡ tables_header
  pub prices : t.prices.items ≡ row_text header
  pub deviation : t.deviation ≡ 0

-- the rows of a fit were appended
pub record HasFit (s : Schema) (sp : Spine) (fit : Fit) (old new : Texts) : Type 0 where
  pub tables : new.tables.items ≡ old.tables.items ++ units_text s sp fit.units.items fit.counts.items
  pub prices : new.prices.items ≡ old.prices.items ++ fit_text s sp fit.parent fit.prices.items
  pub deviation : new.deviation ≡ most_sum old.deviation fit.deviation

-- the texts are those of a release with prices that certify it, and its deviation
pub record AreTextsOf (i : Inputs) (t : Texts) : Type 0 where
  pub tables : Tables
  pub price : Pricing
  pub certified : IsCertifiedRelease i tables price
  pub tables_are : t.tables.items ≡ tables_text i.schema i.spine tables
  pub prices_are : t.prices.items ≡ pricing_text i price
  pub deviation : t.deviation ≡ total_deviation i tables

-- a text that is no longer than its reader takes, and is read as this value
pub record IsReadBack {V F : Type 0} (read : List ℕ → Result V F) (text : List ℕ) (value : V) : Type 0 where
  pub short : length text ≤ 2 ^ 30
  pub value_is : read text ≡ Ok value

-- both texts are read back: the prices that are read certify the tables that are read, of the same deviation, and an audit answers Yes
pub record AreReadBack (i : Inputs) (t : Texts) : Type 0 where
  pub counts : Counts
  pub numbers : List ℤ
  pub tables_back : IsReadBack (tables.read i.schema i.spine) t.tables.items counts
  pub prices_back : IsReadBack (prices.read i.schema i.spine) t.prices.items numbers
  pub certified : Certifies Square i (level_groups i.schema) (count_at counts) (price_in i.schema i.spine numbers)
  pub deviation : total_deviation i (count_at counts) ≡ t.deviation
  pub yes : IsVerdict Square i (count_at counts) (price_in i.schema i.spine numbers) Yes
