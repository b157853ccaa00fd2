use Rattle.std.proofs.Common.{◌*◌, ◌<◌, length, length-drop, arith, []}
use Rattle.tda_io.specs.Csv.{after_header, first_fault}
use Rattle.tda_io.proofs.Loops.{goes_on}
use Rattle.tda_model.specs.Groups.{kind_count}
use Rattle.tda_invar.specs.Facilities.{names_place, facilities_in, row_fault}
use Rattle.tda_invar.proofs.EntryLemmas.{gathered_more}
use Rattle.tda_invar.proofs.facilities_reader.entries_of.Goals as goal

pub loop-row-preserved : goal.loop-row-preserved
loop-row-preserved c =
    let s = c.args.schema.now in
    let sp = c.args.spine.now in
    let rows = after_header c.args.rows.now in
    let k = c.loop-row.row in
    let found = c.in_ok-found.found in
    let below : k < length rows = omega (arith, length-drop 1 c.args.rows.now) in
    record {
      leads = goes_on (row_fault s sp) rows (first_fault (row_fault s sp) [] rows) k below c.in_ok-found.ensures.fine c.loop-row.invariant.leads;
      gathered = gathered_more (length sp.units * kind_count s) (names_place s sp) facilities_in rows k below c.loop-row.entries.items found.place found.count c.loop-row.invariant.gathered c.in_ok-found.ensures.ok;
    }
