-- The rows of a regular spine in preorder, as they are written: each child's row, and after it those of the units below.
use Rattle.std.specs.Prelude.{ℕ, ◌+◌, List, [], ◌∷◌}
use Rattle.std.specs.List.{flat_map, range_with_len}
use Rattle.tda_io.specs.Csv.{Row}
use Rattle.tda_model.specs.Schema.{Schema}
use Rattle.tda_demo.specs.Names.{level_name}
use Rattle.tda_demo.specs.Preorder.{Branch, child_code}

abbrev pub child_row : Schema → ℕ → List ℕ → List ℕ → Row
child_row s level code parent = code ∷ level_name s (level + 1) ∷ parent ∷ []

-- below a unit of a level, with its code; the codes below it begin with the stem
abbrev pub rows_below : Schema → List Branch → ℕ → List ℕ → List ℕ → List Row
rows_below s [] level stem parent = []
rows_below s (b ∷ bs) level stem parent =
    flat_map (λ k. child_row s level (child_code stem b k) parent
    ∷ rows_below s bs (level + 1) (child_code stem b k) (child_code stem b k)) (range_with_len 0 b.count)

abbrev pub nation_row : Schema → List ℕ → Row
nation_row s code = code ∷ level_name s 0 ∷ [] ∷ []
