-- The value of tables: a list of counts for each unit, in which there is a count for each cell.
use Rattle.std.specs.Prelude.{◌≡◌, ◌+◌, ◌*◌, ◌≤◌, ℕ, List, [], length, map, All, slice_index, slice_index_or, slice_set}
use Rattle.std.specs.List.{range_with_len}
use Rattle.tda_model.specs.Schema.{Schema}
use Rattle.tda_model.specs.Cells.{cell_count, all_cells}
use Rattle.tda_model.specs.Spine.{Spine, unit_numbers}
use Rattle.tda_model.specs.Bounds.{persons_limit}
use Rattle.tda_model.specs.Tables.{Tables}

abbrev pub Counts : Type 0
Counts = List (List ℕ)

-- the count of a unit and a cell. `count_at counts` is a table for each unit.
abbrev pub count_at : Counts → Tables
count_at counts unit cell = slice_index (slice_index_or counts unit []) cell

-- the counts of a table for each unit
abbrev pub counts_of : Schema → Spine → Tables → Counts
counts_of s sp x = map (λ u. map (x u) (all_cells s)) (unit_numbers sp)

-- the counts with another count for one unit and cell
abbrev pub with_count : Counts → ℕ → ℕ → ℕ → Counts
with_count counts unit cell count = slice_set counts unit (slice_set (slice_index_or counts unit []) cell count)

-- there is a list for each unit, and in it a count for each cell
pub record AreCountsOf (s : Schema) (sp : Spine) (counts : Counts) : Type 0 where
  pub units : length counts ≡ length sp.units
  pub cells : All (λ row. length row ≡ cell_count s) counts

-- the lists of counts that stand side by side, unit by unit and cell by cell
abbrev pub rows_of : ℕ → ℕ → List ℕ → Counts
rows_of units cells numbers = map (λ u. map (λ j. slice_index numbers (u * cells + j)) (range_with_len 0 cells)) (range_with_len 0 units)

-- as many counts as units times cells, none too large
pub record AreRows (units cells : ℕ) (numbers : List ℕ) : Type 0 where
  pub size : length numbers ≡ units * cells
  pub few : All (λ n. n ≤ persons_limit) numbers
