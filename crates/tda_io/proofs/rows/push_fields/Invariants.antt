use Rattle.std.proofs.Common.{◌≡◌, length}
use Rattle.csv.specs.Records.{cut_from, fields_of}
use Rattle.tda_io.proofs.Tables.{Pushed}
use Rattle.tda_io.proofs.rows.push_fields.Given as goal

abbrev pub invariant-loop-field : goal.invariant-loop-field
invariant-loop-field l =
    let before = cut_from 0 l.initial.ends.items l.initial.bytes.items in
    (l.field-iterator.row.now ≡ l.row) × Pushed before (fields_of l.row) (length l.initial.bytes.items) l.field-iterator.at l.ends.items l.bytes.items
