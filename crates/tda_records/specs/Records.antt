-- The file of records: for each person the block and the cell.
use Rattle.std.specs.Prelude.{◌≡◌, ◌+◌, ◌-◌, ◌≤◌, ◌^◌, ℕ, Bool, true, if◌then◌else◌, codes, length, List, [], ◌∷◌, map, All, slice_index_or, Option, Some, None, is_none, unwrap_or, position, find, Result}
use Rattle.std.specs.List.{list_all, list_any, range_with_len}
use Rattle.std.specs.Str.{bytes_eq}
use Rattle.tda_model.specs.Schema.{Schema}
use Rattle.tda_model.specs.Cells.{value_at, is_possible, possible_cells}
use Rattle.tda_model.specs.Spine.{Spine, IsUnit, code_of, level_of, units_at}
use Rattle.tda_io.specs.Csv as csv
use Rattle.tda_io.specs.Csv.{Row, Format}
use Rattle.tda_schema.specs.Readers.{values_of}
use Rattle.tda_spine.specs.Counts.{is_named}
use Rattle.tda_spine.specs.Judged.{row_number}
use Rattle.tda_records.specs.declared.fault.RecFault.{RecFault}
use Rattle.tda_records.specs.declared.fault.RecFault.TheVariants.{BadRow, BadHeader, UnknownBlock, UnknownValue, ImpossibleCell}
use Rattle.tda_records.specs.declared.records.Record.{Record}

-- the unit of the last level that has this code
abbrev pub block_named : Spine → List ℕ → Option ℕ
block_named sp code = find (λ u. bytes_eq code (code_of sp u)) (units_at sp (sp.depth - 1))

-- the block that a row names in its first field
abbrev pub block_in : Spine → Row → Option ℕ
block_in sp row = block_named sp (slice_index_or row 0 [])

-- the value of an attribute that a row names: the attributes' fields follow the block's
abbrev pub value_in : Schema → Row → ℕ → Option ℕ
value_in s row attribute = position (λ v. bytes_eq v (slice_index_or row (attribute + 1) [])) (values_of s attribute)

abbrev pub attribute_numbers : Schema → List ℕ
attribute_numbers s = range_with_len 0 (length s.attributes)

-- a field is no value of its attribute
abbrev pub has_unknown_value : Schema → Row → Bool
has_unknown_value s row = list_any (λ a. is_none (value_in s row a)) (attribute_numbers s)

-- the cell has the values that the row names
abbrev pub has_values_in : Schema → Row → ℕ → Bool
has_values_in s row cell = list_all (λ a. is_named (value_at s cell a) (value_in s row a)) (attribute_numbers s)

-- the possible cell that has the values that a row names
abbrev pub cell_in : Schema → Row → Option ℕ
cell_in s row = find (has_values_in s row) (possible_cells s)

-- the fault of a row, by the row's number in the file
abbrev pub row_fault : Schema → Spine → ℕ → Row → Option RecFault
row_fault s sp number row =
    if is_none (block_in sp row) then Some (UnknownBlock number)
    else if has_unknown_value s row then Some (UnknownValue number)
    else if is_none (cell_in s row) then Some (ImpossibleCell number)
    else None

abbrev pub record_of : Schema → Spine → Row → Record
record_of s sp row = record { block = unwrap_or (block_in sp row) 0; cell = unwrap_or (cell_in s row) 0 }

-- `block`, and then the attributes' names in order
abbrev pub header : Schema → Row
header s = codes "block" ∷ map (λ a. a.name) s.attributes

abbrev pub format : Schema → Spine → Format RecFault (List Record)
format s sp = record {
  bad_row = BadRow;
  bad_header = BadHeader;
  header = header s;
  row_fault = λ rows earlier row. row_fault s sp (row_number earlier) row;
  file_fault = λ rows. None;
  value = map (record_of s sp);
}

-- the records of a file, or its fault
abbrev pub read : Schema → Spine → List ℕ → Result (List Record) RecFault
read s sp text = csv.read (format s sp) text

-- a unit of the last level
pub record IsBlock (sp : Spine) (u : ℕ) : Type 0 where
  pub here : IsUnit sp u
  pub last : level_of sp u ≡ sp.depth - 1

-- a block and a possible cell
pub record IsRecordOf (s : Schema) (sp : Spine) (r : Record) : Type 0 where
  pub block : IsBlock sp r.block
  pub possible : is_possible s r.cell ≡ true

-- such records, and not too many
pub record AreRecordsOf (s : Schema) (sp : Spine) (records : List Record) : Type 0 where
  pub each : All (IsRecordOf s sp) records
  pub few : length records ≤ 2 ^ 26

-- the block and the cell of a record
abbrev pub record_at : List Record → ℕ → Record
record_at records i = slice_index_or records i (record { block = 0; cell = 0 })

abbrev pub block_at : List Record → ℕ → ℕ
block_at records i = (record_at records i).block

abbrev pub cell_at : List Record → ℕ → ℕ
cell_at records i = (record_at records i).cell
