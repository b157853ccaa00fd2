-- How `run` ends: its tables are made from what is measured.
use Rattle.std.specs.Prelude.{◌≡◌, ◌-◌, ℕ, ℤ, List, length, Result, Ok, Err}
use Rattle.tda_model.specs.Tables.{Tables}
use Rattle.tda_model.specs.Deviation.{square}
use Rattle.tda_model.specs.Release.{Inputs, IsRelease}
use Rattle.tda_schema.specs.Shares.{frac_of, spent_of}
use Rattle.tda_invar.specs.Known.{known}
use Rattle.tda_places.specs.Places.{places_of}
use Rattle.tda_hist.specs.TrueTable.{true_count}
use Rattle.tda_measure.specs.Measured.{sums_of, noisy}
use Rattle.tda_measure.specs.Noise.{variances_of, IsNoise}
use Rattle.tda_measure.specs.declared.stop.MeasureStop.{MeasureStop}
use Rattle.tda_inputs.specs.Ending.{Ending}
use Rattle.tda_inputs.specs.Survey.{Survey}
use Rattle.tda_inputs.specs.Accepted.{inputs_by}
use Rattle.tda_release.specs.Certified.{total_deviation}
use Rattle.tda_tool.specs.Ending.{run_ending}
use Rattle.tda_tool.specs.Measuring.{state_counts, stop_ending}

-- what the tables are made from: the facilities, the totals of the states, and measurements. The records aren't among them.
abbrev pub run_inputs : Survey → List ℤ → Inputs
run_inputs v m = inputs_by v.schema v.spine (known v.spine v.facilities (state_counts v.spine v.records)) m

-- what is measured where this is the noise
abbrev pub measured_by : Survey → List ℤ → List ℤ
measured_by v noise = noisy (sums_of v.schema v.spine (true_count v.spine v.records)) noise

-- how it ends with these measurements, so many words taken, and these tables
abbrev pub ran_ending : Survey → List ℤ → ℕ → Tables → Ending
ran_ending v m taken x = run_ending (length (places_of v.schema v.spine)) (frac_of (spent_of v.schema)) taken v.spine (total_deviation (run_inputs v m) x)

-- by what the noise comes to: with some tables that are a release over the measurements, or as `measure` does
abbrev pub EndsRun : Survey → Result (List ℤ) MeasureStop → List ℕ → Ending → Type 0
EndsRun v (Ok noise) rest e =
    (x : Tables) × IsRelease square (run_inputs v (measured_by v noise)) x × (e ≡ ran_ending v (measured_by v noise) (length v.words - length rest) x)
EndsRun v (Err why) rest e = e ≡ stop_ending v.schema v.spine why

-- this is how it ends: by what the noise on its words comes to
pub record RunEnds (v : Survey) (e : Ending) : Type 0 where
  pub noise : Result (List ℤ) MeasureStop
  pub rest : List ℕ
  pub is : IsNoise (variances_of v.schema v.spine) v.words noise rest
  pub ends : EndsRun v noise rest e
