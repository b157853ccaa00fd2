-- What all fits together come to.
use Rattle.std.specs.Prelude.{◌≡◌, List, sum_by, All}
use Rattle.tda_model.specs.Release.{Inputs, IsRelease, deviation_at}
use Rattle.tda_model.specs.Spine.{unit_numbers}
use Rattle.tda_model.specs.Tables.{Tables}
use Rattle.tda_loss.specs.declared.Curve.{Curve}
use Rattle.tda_fitnet.specs.Fits.{curve_of}
use Rattle.tda_descent.specs.declared.fit.Fit.{Fit}
use Rattle.tda_descent.specs.Fits.{IsFitOf}

-- tables that are a release, of which each fit has its units', and whose deviation is that of all fits
pub record IsReleased (c : Curve) (i : Inputs) (fits : List Fit) : Type 0 where
  pub x : Tables
  pub release : IsRelease (curve_of c) i x
  pub each : All (IsFitOf c i x) fits
  pub deviation : sum_by (λ fit. fit.deviation) fits ≡ sum_by (λ u. deviation_at (curve_of c) i u (x u)) (unit_numbers i.spine)
