use Rattle.std.proofs.Common.{◌≡◌, ◌*◌, ◌≤◌, ◌^◌, sum_by}
use Rattle.std.specs.List.{range_with_len}
use Rattle.tda_invar.specs.KindTable.{number_at}
use Rattle.tda_invar.proofs.kind_table.KindTable.row_sum.Given as goal

abbrev pub invariant-loop-kind : goal.invariant-loop-kind
invariant-loop-kind l = record {
  sum_is : l.sum ≡ sum_by (number_at l.self l.unit) (range_with_len 0 l.kind);
  small : l.sum ≤ l.kind * 2 ^ 37;
}
