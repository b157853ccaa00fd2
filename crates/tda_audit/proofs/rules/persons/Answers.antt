use Rattle.std.proofs.Common.{arith}
use Rattle.tda_invar.proofs.RangeLemmas.{sum_more}
use Rattle.tda_out.specs.Counts.{count_at}
use Rattle.tda_audit.proofs.rules.persons.Goals as goal

pub loop-cell-preserved : goal.loop-cell-preserved
loop-cell-preserved c = record {
  sum_is =
      sum_more (count_at c.args.tables.now c.args.unit) c.loop-cell.cell c.loop-cell.sum c.get-sum.result
      c.loop-cell.invariant.sum_is c.get-sum.ensures.count;
  small = omega (arith, c.loop-cell.invariant.small, c.get-sum.ensures.limit);
}
