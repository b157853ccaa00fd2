-- The values of all cells, attribute by attribute.
use Rattle.std.specs.Prelude.{ℕ, List, length, map, slice_index}
use Rattle.std.specs.List.{range_with_len}
use Rattle.tda_model.specs.Schema.{Attribute}
use Rattle.tda_model.specs.Cells.{cells_in, values_in}

-- an attribute's value in each cell
abbrev pub column_of : List Attribute → ℕ → List ℕ
column_of attributes a = map (λ cell. slice_index (values_in attributes cell) a) (range_with_len 0 (cells_in attributes))

abbrev pub columns_of : List Attribute → List (List ℕ)
columns_of attributes = map (column_of attributes) (range_with_len 0 (length attributes))
