use Rattle.std.proofs.Common.{◌≡◌, ◌*◌, ◌≤◌, ◌^◌, take, sum_by}
use Rattle.tda_out.specs.Counts.{count_at}
use Rattle.tda_audit.proofs.rules.count_in.Given as goal

abbrev pub invariant-loop-unit : goal.invariant-loop-unit
invariant-loop-unit l = record {
  sum_is : l.sum ≡ sum_by (λ u. count_at l.tables u l.cell) (take l.unit-index l.units);
  small : l.sum ≤ l.unit-index * 2 ^ 30;
}
