-- How far apart two lists of records are in the answers of one query at one level.
use Rattle.std.specs.Prelude.{◌≡◌, ◌≢◌, ◌<◌, ◌*◌, ℕ, List, All, length, sum_by}
use Rattle.std.specs.Int.{abs_diff}
use Rattle.tda_model.specs.Schema.{Query, Schema}
use Rattle.tda_model.specs.Groups.{classes_of}
use Rattle.tda_model.specs.Spine.{Spine, units_at}
use Rattle.tda_out.specs.Counts.{Counts, count_at, AreCountsOf}
use Rattle.tda_records.specs.Records.{record_at}
use Rattle.tda_records.specs.declared.records.Record.{Record}
use Rattle.tda_hist.specs.TrueTable.{class_persons}

abbrev pub squared_gap : ℕ → ℕ → ℕ
squared_gap a b = abs_diff a b * abs_diff a b

-- the squared length of the difference of the two answers: over the units of the level and the classes of the query
abbrev pub square_distance : Schema → Spine → List Record → List Record → ℕ → Query → ℕ
square_distance s sp first second level q =
    sum_by (λ u. sum_by (λ c. squared_gap (class_persons s sp q first u c) (class_persons s sp q second u c)) (classes_of s q)) (units_at sp level)

-- one record is replaced: as many records, and the same at each place but one
pub record AreNeighbours (first second : List Record) : Type 0 where
  pub size : length first ≡ length second
  pub place : ℕ
  pub others : (i : ℕ) → i < length first → i ≢ place → record_at first i ≡ record_at second i

-- the squared differences of two tables' counts of a unit and some cells together
abbrev pub unit_gap : Counts → Counts → List ℕ → ℕ → ℕ
unit_gap first second cells u = sum_by (λ j. squared_gap (count_at first u j) (count_at second u j)) cells

-- a count for each unit of the level and each class of the query: of the records there
pub record AreClassCounts (s : Schema) (sp : Spine) (records : List Record) (level : ℕ) (q : Query) (counts : Counts) : Type 0 where
  pub are : AreCountsOf s sp counts
  pub each : All (λ u. All (λ c. count_at counts u c ≡ class_persons s sp q records u c) (classes_of s q)) (units_at sp level)
