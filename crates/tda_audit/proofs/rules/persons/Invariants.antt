use Rattle.std.proofs.Common.{◌≡◌, ◌*◌, ◌≤◌, ◌^◌, sum_by}
use Rattle.std.specs.List.{range_with_len}
use Rattle.tda_out.specs.Counts.{count_at}
use Rattle.tda_audit.proofs.rules.persons.Given as goal

abbrev pub invariant-loop-cell : goal.invariant-loop-cell
invariant-loop-cell l = record {
  sum_is : l.sum ≡ sum_by (count_at l.tables l.unit) (range_with_len 0 l.cell);
  small : l.sum ≤ l.cell * 2 ^ 30;
}
