use Rattle.std.proofs.Common.{◌≡◌, ◌+◌, drop}
use Rattle.tda_io.specs.Csv.{same_row}
use Rattle.tda_records.specs.Records.{header}
use Rattle.tda_records.proofs.reader.is_header.Given as goal

abbrev pub invariant-loop-a : goal.invariant-loop-a
invariant-loop-a l = same_row (drop (l.a + 1) (header l.schema)) (drop (l.a + 1) l.row.row) ≡ same_row (header l.schema) l.row.row
