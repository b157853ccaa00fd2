-- Measuring step by step: what is done at some places one after another.
use Rattle.std.specs.Prelude.{◌≡◌, ◌≤◌, ◌<◌, ◌+ℤ◌, ℕ, ℤ, pos, List, [], ◌∷◌, ◌++◌, length, map, slice_index, slice_index_or}
use Rattle.std.specs.List.{flat_map, range_with_len}
use Rattle.tda_frac.specs.Fraction.{Fraction, reciprocal_of}
use Rattle.tda_model.specs.Bounds.{persons_limit}
use Rattle.tda_model.specs.Schema.{Query, Schema}
use Rattle.tda_model.specs.Cells.{cell_count}
use Rattle.tda_model.specs.Groups.{classes_of}
use Rattle.tda_model.specs.Spine.{Spine, units_at}
use Rattle.tda_model.specs.Tables.{Table, Tables, persons_in}
use Rattle.tda_schema.specs.Shares.{frac_of}
use Rattle.tda_schema.specs.Stated.{queries_at, query_at}
use Rattle.tda_out.specs.Counts.{Counts, count_at}
use Rattle.tda_places.specs.Measurements.{IsWithinLimit}
use Rattle.tda_noise.specs.Draws.{Drawing, Drawn}
use Rattle.tda_hist.specs.TrueTable.{class_sum}
use Rattle.tda_measure.specs.Noise.{IsNumberOf, StopsFrom}
use Rattle.tda_measure.specs.declared.stop.MeasureStop.{MeasureStop}

-- a sum, and the variance of the number that is added to it
pub record Step : Type 0 where
  pub sum : ℕ
  pub variance : Fraction

abbrev pub variances : List Step → List Fraction
variances steps = map (λ x. x.variance) steps

-- at a class of a query, in a table
abbrev pub class_step : Schema → Query → Table → ℕ → Step
class_step s q x c = record { sum = class_sum s q x c; variance = reciprocal_of (frac_of q.share) }

-- at a class of a query whose sum is written under its number
abbrev pub written_step : Query → List ℕ → ℕ → Step
written_step q sums c = record { sum = slice_index sums c; variance = reciprocal_of (frac_of q.share) }

-- at each class of a query
abbrev pub query_steps : Schema → Query → Table → List Step
query_steps s q x = map (class_step s q x) (classes_of s q)

-- at each query of a level
abbrev pub unit_steps : Schema → ℕ → Table → List Step
unit_steps s level x = flat_map (λ query. query_steps s (query_at s level query) x) (range_with_len 0 (length (queries_at s level)))

-- at each unit of a level
abbrev pub level_steps : Schema → Spine → Tables → ℕ → List Step
level_steps s sp x level = flat_map (λ u. unit_steps s level (x u)) (units_at sp level)

-- at each level
abbrev pub all_steps : Schema → Spine → Tables → List Step
all_steps s sp x = flat_map (level_steps s sp x) (range_with_len 0 (length s.levels))

-- at each step a number is drawn and added to the sum
abbrev pub AreTaken : List Step → Drawing (List ℤ)
AreTaken [] w [] r = w ≡ r
AreTaken [] w (m ∷ ms) r = ⊥
AreTaken (x ∷ xs) w [] r = ⊥
AreTaken (x ∷ xs) w (m ∷ ms) r =
    (y : ℤ) × (rest : List ℕ) × IsNumberOf x.variance w (Drawn y) rest × (m ≡ pos x.sum +ℤ y) × IsWithinLimit m × AreTaken xs rest ms r

-- and the measurements are appended
pub record Adds (steps : List Step) (w : List ℕ) (old new : List ℤ) (r : List ℕ) : Type 0 where
  pub added : List ℤ
  pub taken : AreTaken steps w added r
  pub appended : new ≡ old ++ added

-- the noise stops at one of these steps, which come after those of the old measurements
abbrev pub Stops : List Step → List ℕ → List ℤ → MeasureStop → List ℕ → Type 0
Stops steps w old why r = StopsFrom (length old) (variances steps) w why r

-- the counts of a unit: one for each cell, not too many together
pub record HasCounts (s : Schema) (counts : Counts) (unit : ℕ) : Type 0 where
  pub here : unit < length counts
  pub cells : length (slice_index_or counts unit []) ≡ cell_count s
  pub few : persons_in s (count_at counts unit) ≤ persons_limit
