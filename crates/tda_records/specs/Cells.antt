-- The cell of a row's values.
use Rattle.std.specs.Prelude.{◌≡◌, ◌<◌, ℕ, length, Some}
use Rattle.tda_io.specs.Csv.{Row}
use Rattle.tda_model.specs.Schema.{Schema}
use Rattle.tda_model.specs.Cells.{cell_count, value_at}
use Rattle.tda_records.specs.Records.{value_in}

-- the cell, possible or not, has the values that the row names
pub record HasCell (s : Schema) (row : Row) (cell : ℕ) : Type 0 where
  pub in_range : cell < cell_count s
  pub values : (a : ℕ) → a < length s.attributes → value_in s row a ≡ Some (value_at s cell a)
