use Rattle.std.proofs.Common.{◌*◌, length, take, []}
use Rattle.tda_io.specs.Csv.{after_header, first_fault}
use Rattle.tda_io.proofs.Loops.{Leads}
use Rattle.tda_model.specs.Groups.{kind_count}
use Rattle.tda_invar.specs.Entries.{Gathered}
use Rattle.tda_invar.specs.Facilities.{names_place, facilities_in, row_fault}
use Rattle.tda_invar.proofs.facilities_reader.entries_of.Given as goal

abbrev pub invariant-loop-row : goal.invariant-loop-row
invariant-loop-row l =
    let rows = after_header l.rows in
    let judge = row_fault l.schema l.spine in
    record {
      leads : Leads judge rows (first_fault judge [] rows) l.row;
      gathered : Gathered (length l.spine.units * kind_count l.schema) (names_place l.schema l.spine) facilities_in (take l.row rows) l.entries.items;
    }
