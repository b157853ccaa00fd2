use Rattle.std.proofs.Common.{◌≡◌, ◌<◌, ℕ, Some, get_or, length}
use Rattle.tda_records.specs.Records.{value_in}
use Rattle.tda_records.proofs.judge.cell_in.Given as goal

abbrev pub invariant-loop-a : goal.invariant-loop-a
invariant-loop-a l = record {
  size : length l.values ≡ 8;
  named : (k : ℕ) → k < l.a → value_in l.schema l.row.row k ≡ Some (get_or l.values k 0);
}
