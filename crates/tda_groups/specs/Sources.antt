-- The sets of a level as they are gathered: by kind, and by the cell that names a class.
use Rattle.std.specs.Prelude.{ℕ, List, ◌∷◌, ◌++◌, ◌==◌, map, filter}
use Rattle.std.specs.List.{flat_map, range_with_len}
use Rattle.tda_model.specs.Schema.{Query, Level, Schema}
use Rattle.tda_model.specs.Cells.{all_cells, possible_cells}
use Rattle.tda_model.specs.Groups.{scope_cells, kind_cells, kind_count}
use Rattle.tda_schema.specs.Stated.{class_of}

-- the cells of a query's scope whose class is named by a cell: none where it names no class
abbrev pub named_cells : Schema → Query → ℕ → List ℕ
named_cells s q cell = filter (λ j. class_of s q j == cell) (scope_cells s q)

abbrev pub kind_sets : Schema → List (List ℕ)
kind_sets s = map (kind_cells s) (range_with_len 0 (kind_count s))

abbrev pub class_sets : Schema → Query → List (List ℕ)
class_sets s q = map (named_cells s q) (all_cells s)

-- all sets of a level, with empty ones for the cells that name no class
abbrev pub source_sets : Schema → Level → List (List ℕ)
source_sets s l = possible_cells s ∷ kind_sets s ++ flat_map (class_sets s) l.queries
