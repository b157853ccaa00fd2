use Rattle.std.proofs.Common.{◌<◌, ◌^◌, arith}
use Rattle.tda_model.specs.Cells.{cell_count}
use Rattle.tda_out.proofs.RowLemmas.{in_counts}
use Rattle.tda_prices.proofs.TablesGather.{are_counts, goes_on}
use Rattle.tda_prices.proofs.tables.tables_of.Goals as goal

pub set-requires-clause-unit : goal.set-requires-clause-unit
set-requires-clause-unit c =
    let s = c.args.schema.now in
    let sp = c.args.spine.now in
    let are = are_counts s sp c.args.rows.now c.loop-tables.rows c.loop-tables.tables c.loop-tables.last c.loop-tables.invariant in
    (in_counts s sp c.loop-tables.tables c.in-Ok.counted.unit c.in-Ok.counted.cell are c.in-Ok.ensures.unit c.in-Ok.ensures.cell).0

pub set-requires-clause-cell : goal.set-requires-clause-cell
set-requires-clause-cell c =
    let s = c.args.schema.now in
    let sp = c.args.spine.now in
    let are = are_counts s sp c.args.rows.now c.loop-tables.rows c.loop-tables.tables c.loop-tables.last c.loop-tables.invariant in
    (in_counts s sp c.loop-tables.tables c.in-Ok.counted.unit c.in-Ok.counted.cell are c.in-Ok.ensures.unit c.in-Ok.ensures.cell).1

pub loop-tables-preserved : goal.loop-tables-preserved
loop-tables-preserved c =
    let s = c.args.schema.now in
    let sp = c.args.spine.now in
    let takes = rw c.if-branch.true at c.in_ok-next_row.ensures in
    let said = c.in-Ok.ensures in
    let few : cell_count s < 2 ^ 64 = omega (arith, c.cells.ensures.limits.cells) in
    rw c.in_ok-set-in-Ok.ensures.ok
    (goes_on s sp c.args.rows.now c.loop-tables.rows c.next_row.new.self c.loop-tables.tables c.loop-tables.last c.requires.number c.loop-tables.invariant takes
    c.units.ensures.sound few c.in-Ok.counted.unit c.in-Ok.counted.cell c.in-Ok.counted.count c.in-Ok.counted.spot said.unit said.cell said.named said.count said.spot said.fine)

pub returns-clause-counts : goal.returns-clause-counts
returns-clause-counts c =
    let s = c.args.schema.now in
    let sp = c.args.spine.now in
    let are = are_counts s sp c.args.rows.now c.loop-tables.rows c.loop-tables.tables c.loop-tables.last c.loop-tables.invariant in
    are
