use Rattle.std.proofs.Common.{◌≡◌, ◌*◌, ◌≤◌, sum_by}
use Rattle.std.specs.List.{range_with_len}
use Rattle.tda_model.specs.Bounds.{persons_limit}
use Rattle.tda_out.specs.Counts.{count_at}
use Rattle.tda_hist.proofs.sums.persons_in.Given as goal

abbrev pub invariant-loop-cell : goal.invariant-loop-cell
invariant-loop-cell l = record {
  sum : l.persons ≡ sum_by (count_at l.tables l.unit) (range_with_len 0 l.cell);
  limit : l.persons ≤ l.cell * persons_limit;
}
