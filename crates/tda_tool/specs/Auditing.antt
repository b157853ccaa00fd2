-- How `audit` ends: by its verdict.
use Rattle.std.specs.Prelude.{◌≡◌, ◌-◌, ℕ, ℤ, codes, ◌++◌, List, nat_lt, slice_get, Some, Ok, if◌then◌else◌}
use Rattle.std.specs.Fmt.{decimal}
use Rattle.tda_model.specs.Schema.{Schema}
use Rattle.tda_model.specs.Spine.{Spine, fit_count}
use Rattle.tda_model.specs.Tables.{Tables}
use Rattle.tda_model.specs.Release.{Inputs}
use Rattle.tda_out.specs.Counts.{Counts, count_at}
use Rattle.tda_loss.specs.declared.Curve.TheVariants.{Square}
use Rattle.tda_prices.specs.Items.{Pricing}
use Rattle.tda_prices.specs.Priced.{price_in}
use Rattle.tda_audit.specs.Certified.{level_groups, Certifies}
use Rattle.tda_audit.specs.Verdicts.{verdict}
use Rattle.tda_audit.specs.declared.verdict.Verdict.{Verdict}
use Rattle.tda_audit.specs.declared.verdict.Verdict.TheVariants.{Yes, Sum, Impossible, Total, Kind, Arc}
use Rattle.tda_refusal.specs.Verdicts.{verdict_text}
use Rattle.tda_inputs.specs.Ending.{Ending, line}
use Rattle.tda_inputs.specs.Accepted.{Given, Case, tables_from, prices_from}
use Rattle.tda_release.specs.Certified.{total_deviation}

-- the tables are certified, with this deviation
abbrev pub yes_ending : Spine → ℕ → Ending
yes_ending sp deviation = record { status = 0; report = line (codes "ok audit fits=" ++ decimal (fit_count sp) ++ codes " deviation=" ++ decimal deviation) }

abbrev pub no_ending : Schema → Spine → Verdict → Ending
no_ending s sp v = record { status = 1; report = line (verdict_text s sp v) }

-- the tables of a case
abbrev pub tables_in : Case → Tables
tables_in c = count_at c.tables

-- and what the prices charge
abbrev pub prices_in : Case → Pricing
prices_in c = price_in c.inputs.schema c.inputs.spine c.prices

-- a case of what is read of tables and prices
abbrev pub case_over : Inputs → Counts → List ℤ → Case
case_over i counts numbers = record { inputs = i; tables = counts; prices = numbers }

-- the prices certify the tables
abbrev pub IsCertified : Case → Type 0
IsCertified c = Certifies Square c.inputs (level_groups c.inputs.schema) (tables_in c) (prices_in c)

-- the first condition that fails, and Yes where none does
abbrev pub verdict_on : Case → Verdict
verdict_on c = verdict c.inputs (level_groups c.inputs.schema) Square (tables_in c) (prices_in c)

-- Over the inputs these texts of tables and prices are accepted, and their prices certify their tables, of this deviation: the verdict is Yes.
pub record AreAnsweredYes (i : Inputs) (tables prices : List ℕ) (deviation : ℕ) : Type 0 where
  pub counts : Counts
  pub numbers : List ℤ
  pub tables_are : tables_from i.schema i.spine (Some tables) ≡ Ok counts
  pub prices_are : prices_from i.schema i.spine (Some prices) ≡ Ok numbers
  pub certified : IsCertified (case_over i counts numbers)
  pub yes : verdict_on (case_over i counts numbers) ≡ Yes
  pub deviation_is : total_deviation i (count_at counts) ≡ deviation

abbrev pub ending_by : Verdict → Case → Ending
ending_by Yes c = yes_ending c.inputs.spine (total_deviation c.inputs (tables_in c))
ending_by (Sum u j) c = no_ending c.inputs.schema c.inputs.spine (Sum u j)
ending_by (Impossible u j) c = no_ending c.inputs.schema c.inputs.spine (Impossible u j)
ending_by (Total st) c = no_ending c.inputs.schema c.inputs.spine (Total st)
ending_by (Kind u k) c = no_ending c.inputs.schema c.inputs.spine (Kind u k)
ending_by (Arc fit arc side) c = no_ending c.inputs.schema c.inputs.spine (Arc fit arc side)

-- how it ends
abbrev pub audit_ending : Case → Ending
audit_ending c = ending_by (verdict_on c) c

-- what reads give where these texts follow the first k files
abbrev pub followed : ℕ → List (List ℕ) → Given → Given
followed k texts given n = if nat_lt n k then given n else slice_get texts (n - k)
