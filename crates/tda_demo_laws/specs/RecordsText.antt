-- How records are written: a row for each, with the block's code and the names of the cell's values.
use Rattle.std.specs.Prelude.{ℕ, List, ◌∷◌, map}
use Rattle.std.specs.List.{flat_map}
use Rattle.tda_io.specs.Csv.{Row}
use Rattle.tda_io.specs.Texts.{row_text}
use Rattle.tda_model.specs.Schema.{Schema}
use Rattle.tda_model.specs.Cells.{value_at}
use Rattle.tda_model.specs.Spine.{Spine, code_of}
use Rattle.tda_records.specs.Records.{attribute_numbers, header}
use Rattle.tda_records.specs.declared.records.Record.{Record}
use Rattle.tda_demo.specs.Names.{value_name}

abbrev pub record_row : Schema → Spine → Record → Row
record_row s sp r = code_of sp r.block ∷ map (λ a. value_name s a (value_at s r.cell a)) (attribute_numbers s)

abbrev pub record_rows : Schema → Spine → List Record → List Row
record_rows s sp records = map (record_row s sp) records

abbrev pub records_text : Schema → Spine → List Record → List ℕ
records_text s sp records = flat_map row_text (header s ∷ record_rows s sp records)
