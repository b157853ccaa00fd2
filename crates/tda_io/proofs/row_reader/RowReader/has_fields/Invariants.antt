use Rattle.std.proofs.Common.{◌≡◌, drop, map}
use Rattle.tda_io.specs.Csv.{same_row}
use Rattle.tda_io.proofs.row_reader.RowReader.has_fields.Given as goal

abbrev pub invariant-loop-col : goal.invariant-loop-col
invariant-loop-col l =
    let names = map (λ f. f.now) l.fields in
    same_row (drop l.col names) (drop l.col l.self.row) ≡ same_row names l.self.row
