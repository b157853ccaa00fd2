-- The file of totals: how many persons live in each state.
use Rattle.std.specs.Prelude.{◌≡◌, ◌++◌, ℕ, Bool, not, if◌then◌else◌, codes, length, List, [], ◌∷◌, map, sum, sum_by, nat_lt, ◌==◌, ◌≤◌, slice_index, Option, Some, None, is_none, option_map, unwrap_or, position, Result, find}
use Rattle.std.specs.List.{list_any, flat_map}
use Rattle.std.specs.Fmt.{decimal}
use Rattle.std.specs.Str.{bytes_eq}
use Rattle.tda_model.specs.Spine.{Spine, code_of, units_at}
use Rattle.tda_model.specs.Bounds.{persons_limit}
use Rattle.tda_model.specs.TablesText.{row_text}
use Rattle.tda_io.specs.Csv as csv
use Rattle.tda_io.specs.Csv.{Row, Format, or_else}
use Rattle.tda_spine.specs.Judged.{row_number}
use Rattle.tda_invar.specs.Fields.{field_in, is_unit_at, count_named}
use Rattle.tda_invar.specs.Entries.{counted}
use Rattle.tda_invar.specs.declared.tot_fault.TotFault.{TotFault}
use Rattle.tda_invar.specs.declared.tot_fault.TotFault.TheVariants.{BadRow, BadHeader, UnknownState, Repeated, Missing, BadCount, TooManyPersons}

abbrev pub state_in : Row → List ℕ
state_in row = field_in row 0

abbrev pub count_in : Row → Option ℕ
count_in row = count_named persons_limit (field_in row 1)

-- no state has this code
abbrev pub has_unknown_state : Spine → Row → Bool
has_unknown_state sp row = not (is_unit_at sp 1 (state_in row))

-- an earlier row has the state
abbrev pub is_repeated : List Row → Row → Bool
is_repeated earlier row = list_any (λ e. bytes_eq (state_in row) (state_in e)) earlier

-- the fault of a row beside the rows before it
abbrev pub row_fault : Spine → List Row → Row → Option TotFault
row_fault sp earlier row =
    if has_unknown_state sp row then Some (UnknownState (row_number earlier))
    else if is_repeated earlier row then Some (Repeated (row_number earlier))
    else if is_none (count_in row) then Some (BadCount (row_number earlier))
    else None

-- the row names this unit
abbrev pub names : Spine → ℕ → Row → Bool
names sp unit row = bytes_eq (code_of sp unit) (state_in row)

-- the first state without a row
abbrev pub first_missing : Spine → List Row → Option ℕ
first_missing sp rows = find (λ u. not (list_any (names sp u) rows)) (units_at sp 1)

-- the persons of a row, none where it has no count
abbrev pub persons_of : Row → ℕ
persons_of row = unwrap_or (count_in row) 0

-- all totals together pass the limit
abbrev pub has_too_many : List Row → Bool
has_too_many rows = nat_lt persons_limit (sum_by persons_of rows)

abbrev pub file_fault : Spine → List Row → Option TotFault
file_fault sp rows =
    or_else (option_map Missing (first_missing sp rows)) (if has_too_many rows then Some TooManyPersons else None)

-- the persons in the row of a unit
abbrev pub persons_for : Spine → List Row → ℕ → ℕ
persons_for sp rows unit = unwrap_or (counted (names sp unit) persons_of rows) 0

-- a number for each state, in file order
abbrev pub totals_of : Spine → List Row → List ℕ
totals_of sp rows = map (persons_for sp rows) (units_at sp 1)

abbrev pub header : Row
header = codes "state" ∷ codes "total" ∷ []

abbrev pub format : Spine → Format TotFault (List ℕ)
format sp = record {
  bad_row = BadRow;
  bad_header = BadHeader;
  header = header;
  row_fault = λ rows. row_fault sp;
  file_fault = file_fault sp;
  value = totals_of sp;
}

-- the totals of a file, or its fault
abbrev pub read : Spine → List ℕ → Result (List ℕ) TotFault
read sp text = csv.read (format sp) text

-- a number for each state, at most the limit together
pub record AreTotalsOf (sp : Spine) (totals : List ℕ) : Type 0 where
  pub size : length totals ≡ length (units_at sp 1)
  pub few : sum totals ≤ persons_limit

-- which of the states a unit is
abbrev pub state_place : Spine → ℕ → Option ℕ
state_place sp unit = position (λ st. st == unit) (units_at sp 1)

-- the total of a unit, and 0 where it is no state
abbrev pub total_of : Spine → List ℕ → ℕ → ℕ
total_of sp totals unit = elim (state_place sp unit) [ Some k ↦ slice_index totals k | None ↦ 0 ]

-- the row of a state
abbrev pub total_row : Spine → List ℕ → ℕ → Row
total_row sp totals unit = code_of sp unit ∷ decimal (total_of sp totals unit) ∷ []

-- the file of totals, states in file order
abbrev pub totals_text : Spine → List ℕ → List ℕ
totals_text sp totals = row_text header ++ flat_map (λ u. row_text (total_row sp totals u)) (units_at sp 1)
