-- Which files are spines of a schema, and which spine each is: each thing that can be wrong is a test of its own, and they stand in the order in which they are judged.
use Rattle.std.specs.Prelude.{codes, ◌≡◌, ◌≤◌, ◌<◌, ℕ, ◌+◌, ◌*◌, Bool, ◌&&◌, ◌||◌, ◌==◌, not, List, [], ◌∷◌, length, map, find, nat_lt, Option, Some, None, option_map, Result, Ok, if◌then◌else◌}
use Rattle.tda_io.specs.Csv as csv
use Rattle.tda_io.specs.Due.{◌>>◌, none_of}
use Rattle.tda_io.specs.Csv.{Row, Format, or_else}
use Rattle.tda_model.specs.Schema.{Schema}
use Rattle.tda_model.specs.Cells.{cell_count}
use Rattle.tda_model.specs.Spine.{Spine, IsUnit, level_of, units_at, children_of, parents_of, unit_numbers}
use Rattle.tda_model.specs.Sizes.{FitSize, fit_size, place_count, units_limit, counts_limit, places_limit, nodes_limit, arcs_limit}
use Rattle.tda_spine.specs.Rows.{is_bad_code, is_repeated, has_unknown_parent, has_wrong_level, spine_in}
use Rattle.tda_spine.specs.declared.fault.SpineFault.{SpineFault}
use Rattle.tda_spine.specs.declared.fault.SpineFault.TheVariants.{BadRow, BadHeader, BadCode, Repeated, UnknownParent, WrongLevel, NoNation, Childless, TooMany, FitTooLarge}

-- the number of a row in its file: the rows before it follow the header, which is row 1
abbrev pub row_number : List Row → ℕ
row_number earlier = length earlier + 2

-- the fault of a row, beside the rows before it and among all rows
abbrev pub row_fault : Schema → List Row → List Row → Row → Option SpineFault
row_fault s rows earlier row =
    if is_bad_code row then Some (BadCode (row_number earlier))
    else if is_repeated earlier row then Some (Repeated (row_number earlier))
    else if has_unknown_parent rows row then Some (UnknownParent (row_number earlier))
    else if has_wrong_level s rows row then Some (WrongLevel (row_number earlier))
    else None

-- there is not exactly one unit of the first level
abbrev pub has_no_nation : Spine → Bool
has_no_nation sp = not (length (units_at sp 0) == 1)

-- the unit stands above the last level
abbrev pub is_inner : Spine → ℕ → Bool
is_inner sp u = nat_lt (level_of sp u + 1) sp.depth

-- such a unit without a child
abbrev pub is_childless : Spine → ℕ → Bool
is_childless sp u = is_inner sp u && (length (children_of sp u) == 0)

-- the first such unit
abbrev pub first_childless : Spine → Option ℕ
first_childless sp = find (is_childless sp) (unit_numbers sp)

-- too many units, units times cells, or places
abbrev pub has_too_many : Schema → Spine → Bool
has_too_many s sp =
    nat_lt units_limit (length sp.units)
    || nat_lt counts_limit (length sp.units * cell_count s)
    || nat_lt places_limit (place_count s sp)

-- too many nodes or arcs for one fit
abbrev pub is_too_large : FitSize → Bool
is_too_large size = nat_lt nodes_limit size.nodes || nat_lt arcs_limit size.arcs

-- the fits in their order: that of the nation, and then for each unit with children that of its children
abbrev pub fits_of : Spine → List (Option ℕ)
fits_of sp = None ∷ map Some (parents_of sp)

-- the first fit that is too large
abbrev pub first_large_fit : Schema → Spine → Option (Option ℕ)
first_large_fit s sp = find (λ fit. is_too_large (fit_size s sp fit)) (fits_of sp)

-- the fault of units that form no tree, or are too many
abbrev pub tree_fault : Schema → Spine → Option SpineFault
tree_fault s sp =
    if has_no_nation sp then Some NoNation
    else or_else (option_map Childless (first_childless sp)) (if has_too_many s sp then Some TooMany else None)

-- the fault of a spine as a whole: its fits are judged last
abbrev pub spine_fault : Schema → Spine → Option SpineFault
spine_fault s sp = or_else (tree_fault s sp) (option_map FitTooLarge (first_large_fit s sp))

-- the spine, or its fault
abbrev pub judged_spine : Schema → Spine → Result Spine SpineFault
judged_spine s sp = none_of (spine_fault s sp) >> Ok sp

abbrev pub format : Schema → Format SpineFault Spine
format s = record {
  bad_row = BadRow;
  bad_header = BadHeader;
  header = codes "unit" ∷ codes "level" ∷ codes "parent" ∷ [];
  row_fault = row_fault s;
  file_fault = λ rows. spine_fault s (spine_in s rows);
  value = spine_in s;
}

-- the spine that a text is, or its fault
abbrev pub read : Schema → List ℕ → Result Spine SpineFault
read s text = csv.read (format s) text

-- not too many units, counts, places, nodes or arcs
pub record IsWithinLimits (s : Schema) (sp : Spine) : Type 0 where
  pub depth : sp.depth ≡ length s.levels
  pub units : length sp.units ≤ units_limit
  pub counts : length sp.units * cell_count s ≤ counts_limit
  pub places : place_count s sp ≤ places_limit
  pub root_nodes : (fit_size s sp None).nodes ≤ nodes_limit
  pub root_arcs : (fit_size s sp None).arcs ≤ arcs_limit
  pub nodes : (u : ℕ) → IsUnit sp u → level_of sp u + 1 < sp.depth → (fit_size s sp (Some u)).nodes ≤ nodes_limit
  pub arcs : (u : ℕ) → IsUnit sp u → level_of sp u + 1 < sp.depth → (fit_size s sp (Some u)).arcs ≤ arcs_limit
