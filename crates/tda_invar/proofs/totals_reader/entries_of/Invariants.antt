use Rattle.std.proofs.Common.{length, take, []}
use Rattle.tda_io.specs.Csv.{after_header, first_fault}
use Rattle.tda_io.proofs.Loops.{Leads}
use Rattle.tda_invar.specs.Entries.{Gathered}
use Rattle.tda_invar.specs.Totals.{names, persons_of, row_fault}
use Rattle.tda_invar.proofs.totals_reader.entries_of.Given as goal

abbrev pub invariant-loop-row : goal.invariant-loop-row
invariant-loop-row l =
    let rows = after_header l.rows in
    let judge = row_fault l.spine in
    record { leads : Leads judge rows (first_fault judge [] rows) l.row; gathered : Gathered (length l.spine.units) (names l.spine) persons_of (take l.row rows) l.entries.items }
