use Rattle.std.proofs.Common.{◌<◌, length, length-drop, arith, []}
use Rattle.tda_io.specs.Csv.{after_header, first_fault}
use Rattle.tda_io.proofs.Loops.{goes_on}
use Rattle.tda_invar.specs.Totals.{names, persons_of, row_fault}
use Rattle.tda_invar.proofs.EntryLemmas.{gathered_more}
use Rattle.tda_invar.proofs.totals_reader.entries_of.Goals as goal

pub loop-row-preserved : goal.loop-row-preserved
loop-row-preserved c =
    let sp = c.args.spine.now in
    let rows = after_header c.args.rows.now in
    let k = c.loop-row.row in
    let total = c.in_ok-total.total in
    let below : k < length rows = omega (arith, length-drop 1 c.args.rows.now) in
    record {
      leads = goes_on (row_fault sp) rows (first_fault (row_fault sp) [] rows) k below c.in_ok-total.ensures.fine c.loop-row.invariant.leads;
      gathered = gathered_more (length sp.units) (names sp) persons_of rows k below c.loop-row.entries.items total.state total.count c.loop-row.invariant.gathered c.in_ok-total.ensures.ok;
    }
