-- What the rows of a spine's file say, and what is wrong with a row. Rows are those after the header.
use Rattle.std.specs.Prelude.{ℕ, zero, suc, Bool, true, false, ◌&&◌, ◌==◌, not, List, [], ◌∷◌, length, map, position, slice_index_or, Option, Some, None, is_none, option_and_then, unwrap_or, if◌then◌else◌}
use Rattle.std.specs.List.{list_any}
use Rattle.std.specs.Str.{bytes_eq}
use Rattle.tda_io.specs.Texts.{name_test}
use Rattle.tda_io.specs.Csv.{Row}
use Rattle.tda_model.specs.Schema.{Schema}
use Rattle.tda_model.specs.Spine.{SpineUnit, Spine}

abbrev pub code_in : Row → List ℕ
code_in row = slice_index_or row 0 []

abbrev pub level_in : Row → List ℕ
level_in row = slice_index_or row 1 []

abbrev pub parent_in : Row → List ℕ
parent_in row = slice_index_or row 2 []

abbrev pub is_empty : List ℕ → Bool
is_empty [] = true
is_empty (b ∷ bs) = false

-- the place of the first row with this code
abbrev pub place_of : List Row → List ℕ → Option ℕ
place_of rows code = position (λ row. bytes_eq code (code_in row)) rows

-- the place of the parent's row, and none where the row names no parent
abbrev pub parent_place : List Row → Row → Option ℕ
parent_place rows row = if is_empty (parent_in row) then None else place_of rows (parent_in row)

-- which level a text names
abbrev pub level_named : Schema → List ℕ → Option ℕ
level_named s text = position (λ l. bytes_eq l.name text) s.levels

-- the level that the parent's row names
abbrev pub parent_level : Schema → List Row → Row → Option ℕ
parent_level s rows row =
    option_and_then (λ p. level_named s (level_in (slice_index_or rows p []))) (parent_place rows row)

-- a unit code has 1 to 16 bytes
abbrev pub is_bad_code : Row → Bool
is_bad_code row = not (name_test 16 (code_in row))

-- an earlier row has the code
abbrev pub is_repeated : List Row → Row → Bool
is_repeated earlier row = list_any (λ e. bytes_eq (code_in row) (code_in e)) earlier

-- a parent is named, and no row, earlier or later, has its code
abbrev pub has_unknown_parent : List Row → Row → Bool
has_unknown_parent rows row = not (is_empty (parent_in row)) && is_none (place_of rows (parent_in row))

-- of the level, whether no parent is named, and the level of the parent's row:
-- the first level has no parent, and any other has one of the level just above
abbrev pub fits_parent : Option ℕ → Bool → Option ℕ → Bool
fits_parent None no_parent above = false
fits_parent (Some zero) no_parent above = no_parent
fits_parent (Some (suc l)) no_parent None = false
fits_parent (Some (suc l)) no_parent (Some p) = not no_parent && (p == l)

abbrev pub has_wrong_level : Schema → List Row → Row → Bool
has_wrong_level s rows row =
    not (fits_parent (level_named s (level_in row)) (is_empty (parent_in row)) (parent_level s rows row))

abbrev pub unit_of : Schema → List Row → Row → SpineUnit
unit_of s rows row = record {
  code = code_in row;
  level = unwrap_or (level_named s (level_in row)) 0;
  parent = parent_place rows row;
}

-- the spine of rows: a unit for each, in order
abbrev pub spine_in : Schema → List Row → Spine
spine_in s rows = record { depth = length s.levels; units = map (unit_of s rows) rows }
