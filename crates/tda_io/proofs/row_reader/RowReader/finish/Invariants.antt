use Rattle.std.proofs.Common.{◌≡◌, length}
use Rattle.tda_io.specs.RowReading.{bad_rest}
use Rattle.tda_io.proofs.row_reader.RowReader.finish.Given as goal

abbrev pub invariant-loop : goal.invariant-loop
invariant-loop l = (bad_rest l.self ≡ bad_rest l.initial.self) × (l.self.failed ≡ l.initial.self.failed)

abbrev pub decreases-loop : goal.decreases-loop
decreases-loop l = length l.self.rest
