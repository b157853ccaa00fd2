-- The file of facilities: how many of each kind stand in each block.
use Rattle.std.specs.Prelude.{◌≡◌, ◌+◌, ◌-◌, ◌*◌, ◌/◌, ◌%◌, ◌^◌, ◌&&◌, ◌==◌, ℕ, Bool, not, if◌then◌else◌, codes, length, List, [], ◌∷◌, Option, Some, None, is_none, position, unwrap_or, Result}
use Rattle.std.specs.List.{list_any}
use Rattle.std.specs.Str.{bytes_eq}
use Rattle.tda_model.specs.Schema.{Schema}
use Rattle.tda_model.specs.Groups.{kind_count}
use Rattle.tda_model.specs.Spine.{Spine, code_of}
use Rattle.tda_io.specs.Csv as csv
use Rattle.tda_io.specs.Csv.{Row, Format}
use Rattle.tda_schema.specs.Readers.{values_of}
use Rattle.tda_spine.specs.Counts.{is_named}
use Rattle.tda_spine.specs.Judged.{row_number}
use Rattle.tda_invar.specs.Fields.{field_in, is_unit_at, count_named}
use Rattle.tda_invar.specs.Entries.{counted}
use Rattle.tda_invar.specs.KindTable.{NumberTable, number_at, table_of}
use Rattle.tda_invar.specs.declared.fac_fault.FacFault.{FacFault}
use Rattle.tda_invar.specs.declared.fac_fault.FacFault.TheVariants.{BadRow, BadHeader, UnknownBlock, UnknownKind, Household, BadCount, Repeated}

-- the most facilities in one row
abbrev pub facilities_limit : ℕ
facilities_limit = 2 ^ 20

abbrev pub block_in : Row → List ℕ
block_in row = field_in row 0

abbrev pub kind_in : Row → List ℕ
kind_in row = field_in row 1

-- the kind of a name
abbrev pub kind_named : Schema → List ℕ → Option ℕ
kind_named s text = position (λ v. bytes_eq v text) (values_of s 0)

abbrev pub count_in : Row → Option ℕ
count_in row = count_named facilities_limit (field_in row 2)

-- no block has this code
abbrev pub has_unknown_block : Spine → Row → Bool
has_unknown_block sp row = not (is_unit_at sp (sp.depth - 1) (block_in row))

-- no kind has this name
abbrev pub has_unknown_kind : Schema → Row → Bool
has_unknown_kind s row = is_none (kind_named s (kind_in row))

-- the first kind is that of households
abbrev pub is_household : Schema → Row → Bool
is_household s row = is_named 0 (kind_named s (kind_in row))

-- an earlier row has the same block and kind
abbrev pub is_repeated : List Row → Row → Bool
is_repeated earlier row = list_any (λ e. bytes_eq (block_in row) (block_in e) && bytes_eq (kind_in row) (kind_in e)) earlier

-- the fault of a row beside the rows before it
abbrev pub row_fault : Schema → Spine → List Row → Row → Option FacFault
row_fault s sp earlier row =
    if has_unknown_block sp row then Some (UnknownBlock (row_number earlier))
    else if has_unknown_kind s row then Some (UnknownKind (row_number earlier))
    else if is_household s row then Some (Household (row_number earlier))
    else if is_none (count_in row) then Some (BadCount (row_number earlier))
    else if is_repeated earlier row then Some (Repeated (row_number earlier))
    else None

-- the row names this unit and this kind
abbrev pub names_both : Schema → Spine → ℕ → ℕ → Row → Bool
names_both s sp unit kind row = bytes_eq (code_of sp unit) (block_in row) && is_named kind (kind_named s (kind_in row))

-- the facilities of a row, none where it has no count
abbrev pub facilities_in : Row → ℕ
facilities_in row = unwrap_or (count_in row) 0

-- the facilities of a unit and a kind: 0 where no row names them, and so 0 is as no row
abbrev pub facilities_for : Schema → Spine → List Row → ℕ → ℕ → ℕ
facilities_for s sp rows unit kind = unwrap_or (counted (names_both s sp unit kind) facilities_in rows) 0

abbrev pub facilities_of : Schema → Spine → List Row → NumberTable
facilities_of s sp rows = table_of (length sp.units) (kind_count s) (facilities_for s sp rows)

abbrev pub format : Schema → Spine → Format FacFault NumberTable
format s sp = record {
  bad_row = BadRow;
  bad_header = BadHeader;
  header = codes "block" ∷ codes "kind" ∷ codes "count" ∷ [];
  row_fault = λ rows. row_fault s sp;
  file_fault = λ rows. None;
  value = facilities_of s sp;
}

-- the facilities of a file, or its fault
abbrev pub read : Schema → Spine → List ℕ → Result NumberTable FacFault
read s sp text = csv.read (format s sp) text

-- the place of a unit and a kind in the table, and whether a row names it
abbrev pub names_place : Schema → Spine → ℕ → Row → Bool
names_place s sp place row = names_both s sp (place / kind_count s) (place % kind_count s) row

-- a table with a place for each unit of the spine and each kind of the schema
pub record IsTableOf (s : Schema) (sp : Spine) (t : NumberTable) : Type 0 where
  pub units : t.units ≡ length sp.units
  pub kinds : t.kinds ≡ kind_count s
  pub size : length t.numbers ≡ length sp.units * kind_count s

-- how many persons of a kind the facilities in a unit need: one each, and nobody in households
abbrev pub own_need : NumberTable → ℕ → ℕ → ℕ
own_need facilities unit kind = if kind == 0 then 0 else number_at facilities unit kind
