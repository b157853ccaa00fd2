use Rattle.std.proofs.Common.{◌+◌, arith}
use Rattle.tda_out.specs.Counts.{count_at}
use Rattle.tda_hist.proofs.KindCells.{more_from}
use Rattle.tda_hist.proofs.sums.persons_in.Goals as goal

pub loop-cell-preserved : goal.loop-cell-preserved
loop-cell-preserved c = record {
  sum = more_from (count_at c.args.tables.now c.args.unit) 0 c.loop-cell.cell (c.loop-cell.cell + 1) c.loop-cell.cell c.loop-cell.persons c.get-persons.result (omega arith) (omega arith) c.loop-cell.invariant.sum c.get-persons.ensures.count;
  limit = omega (arith, c.loop-cell.invariant.limit, c.get-persons.ensures.limit);
}
