-- What is written of some units' counts, and that it makes up the file of tables.
use Rattle.std.specs.Prelude.{◌≡◌, ◌+◌, ◌*◌, ◌++◌, ◌<◌, ◌≤◌, ℕ, List, [], ◌∷◌, length, map, slice_index}
use Rattle.std.specs.List.{flat_map, range_with_len}
use Rattle.tda_model.specs.Schema.{Schema}
use Rattle.tda_model.specs.Cells.{cell_count, all_cells}
use Rattle.tda_model.specs.Spine.{Spine, IsUnit, code_of, nation_of, children_of, parents_of}
use Rattle.tda_model.specs.Bounds.{persons_limit}
use Rattle.tda_model.specs.Tables.{Table, Tables}
use Rattle.tda_model.specs.TablesText.{table_rows, tables_header, tables_text}

-- the table of the unit at a place, where counts stand unit by unit and cell by cell
abbrev pub table_at : Schema → List ℕ → ℕ → Table
table_at s counts place cell = slice_index counts (place * cell_count s + cell)

-- the rows of some units, whose counts stand unit by unit and cell by cell
abbrev pub units_text : Schema → Spine → List ℕ → List ℕ → List ℕ
units_text s sp units counts =
    flat_map (λ place. table_rows s (code_of sp (slice_index units place)) (table_at s counts place)) (range_with_len 0 (length units))

-- the counts of some units, unit by unit and cell by cell
abbrev pub counts_in : Schema → Tables → List ℕ → List ℕ
counts_in s x units = flat_map (λ u. map (x u) (all_cells s)) units

-- the rows of some units with their counts
abbrev pub rows_in : Schema → Spine → Tables → List ℕ → List ℕ
rows_in s sp x units = units_text s sp units (counts_in s x units)

-- the header, then the rows of the nation, then those of the children of each unit with children, in fit order, are the file
abbrev pub MakeUpFile : Schema → Spine → Type 0
MakeUpFile s sp =
    (x : Tables) → tables_text s sp x
    ≡ tables_header ++ rows_in s sp x (nation_of sp ∷ []) ++ flat_map (λ p. rows_in s sp x (children_of sp p)) (parents_of sp)

-- no count passes 2^30
abbrev pub AreFew : Tables → Type 0
AreFew x = (unit cell : ℕ) → x unit cell ≤ persons_limit

-- equal files are of equal counts at each unit and cell
abbrev pub IsDetermined : Schema → Spine → Type 0
IsDetermined s sp =
    (x y : Tables) → AreFew x → AreFew y → tables_text s sp x ≡ tables_text s sp y
    → (unit cell : ℕ) → IsUnit sp unit → cell < cell_count s → x unit cell ≡ y unit cell
