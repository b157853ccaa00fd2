-- The file of tables: a row for each count that isn't 0.
use Rattle.std.specs.Prelude.{ℕ, List, [], ◌∷◌, ◌++◌, codes, if◌then◌else◌, ◌==◌}
use Rattle.std.specs.List.{flat_map, join_with_byte}
use Rattle.std.specs.Fmt.{decimal}
use Rattle.tda_model.specs.Schema.{Schema}
use Rattle.tda_model.specs.Cells.{all_cells}
use Rattle.tda_model.specs.Spine.{Spine, code_of, nation_of, children_of, parents_of}
use Rattle.tda_model.specs.Tables.{Table, Tables}

-- a row of a file: its fields between commas, and a line feed
abbrev pub row_text : List (List ℕ) → List ℕ
row_text fields = join_with_byte 44 fields ++ 10 ∷ []

abbrev pub tables_header : List ℕ
tables_header = row_text (codes "unit" ∷ codes "cell" ∷ codes "count" ∷ [])

abbrev pub count_row : List ℕ → ℕ → ℕ → List ℕ
count_row code cell count = if count == 0 then [] else row_text (code ∷ decimal cell ∷ decimal count ∷ [])

-- the rows of a unit, by cell
abbrev pub table_rows : Schema → List ℕ → Table → List ℕ
table_rows s code x = flat_map (λ j. count_row code j (x j)) (all_cells s)

-- the nation, and then the children of each unit that has children, in fit order
abbrev pub units_in_order : Spine → List ℕ
units_in_order sp = nation_of sp ∷ flat_map (children_of sp) (parents_of sp)

abbrev pub tables_text : Schema → Spine → Tables → List ℕ
tables_text s sp x = tables_header ++ flat_map (λ u. table_rows s (code_of sp u) (x u)) (units_in_order sp)
