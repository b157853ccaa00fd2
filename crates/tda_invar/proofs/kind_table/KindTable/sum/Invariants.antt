use Rattle.std.proofs.Common.{◌≡◌, ◌*◌, ◌≤◌, ◌^◌, take, sum_by}
use Rattle.tda_invar.specs.KindTable.{number_at}
use Rattle.tda_invar.proofs.kind_table.KindTable.sum.Given as goal

abbrev pub invariant-loop-unit : goal.invariant-loop-unit
invariant-loop-unit l = record {
  sum_is : l.sum ≡ sum_by (λ u. number_at l.self u l.kind) (take l.unit-index l.units);
  small : l.sum ≤ l.unit-index * 2 ^ 37;
}
