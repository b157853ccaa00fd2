-- What an audit is to answer, and what its answers mean.
use Rattle.std.specs.Prelude.{◌≡◌, ◌≤◌, ◌↔◌, All}
use Rattle.tda_model.specs.Bounds.{persons_limit}
use Rattle.tda_model.specs.Spine.{unit_numbers}
use Rattle.tda_model.specs.Tables.{Tables, persons_in}
use Rattle.tda_model.specs.Release.{Inputs, IsRelease}
use Rattle.tda_loss.specs.declared.Curve.{Curve}
use Rattle.tda_fitnet.specs.Fits.{curve_of}
use Rattle.tda_prices.specs.Items.{Pricing}
use Rattle.tda_audit.specs.Certified.{level_groups, Certifies}
use Rattle.tda_audit.specs.Fitted.{AreFitted}
use Rattle.tda_audit.specs.Verdicts.{verdict}
use Rattle.tda_audit.specs.declared.verdict.Verdict.{Verdict}
use Rattle.tda_audit.specs.declared.verdict.Verdict.TheVariants.{Yes}

-- the first condition that fails, and Yes where none does
abbrev pub IsVerdict : Curve → Inputs → Tables → Pricing → Verdict → Type 0
IsVerdict c i x price v = v ≡ verdict i (level_groups i.schema) c x price

-- Of any tables and prices Yes says that the prices certify the tables, so that the tables are a release and no unit has too many
-- persons. What fits hand on is answered Yes.
pub record YesTells (c : Curve) (i : Inputs) : Type 0 where
  pub certified : (x : Tables) (price : Pricing) → IsVerdict c i x price Yes ↔ Certifies c i (level_groups i.schema) x price
  pub release : (x : Tables) (price : Pricing) → IsVerdict c i x price Yes → IsRelease (curve_of c) i x
  pub few : (x : Tables) (price : Pricing) → IsVerdict c i x price Yes → All (λ u. persons_in i.schema (x u) ≤ persons_limit) (unit_numbers i.spine)
  pub fitted : (x : Tables) (price : Pricing) → AreFitted c i x price → IsVerdict c i x price Yes
