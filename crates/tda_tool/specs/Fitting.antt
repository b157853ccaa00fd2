-- How `fit` ends.
use Rattle.std.specs.Prelude.{◌≡◌}
use Rattle.tda_model.specs.Tables.{Tables}
use Rattle.tda_model.specs.Deviation.{square}
use Rattle.tda_model.specs.Release.{Inputs, IsRelease}
use Rattle.tda_inputs.specs.Ending.{Ending}
use Rattle.tda_release.specs.Certified.{total_deviation}
use Rattle.tda_tool.specs.Ending.{fit_ending}

-- how it ends with these tables
abbrev pub fitted_ending : Inputs → Tables → Ending
fitted_ending i x = fit_ending i.spine (total_deviation i x)

-- this is how it ends: with some tables that are a release over the inputs
pub record FitEnds (i : Inputs) (e : Ending) : Type 0 where
  pub tables : Tables
  pub release : IsRelease square i tables
  pub ending : e ≡ fitted_ending i tables
