use Rattle.std.proofs.Common.{◌≡◌}
use Rattle.std.specs.List.{flat_map, range_with_len}
use Rattle.tda_ledger.specs.Ledger as spec
use Rattle.tda_ledger.proofs.make.make_ledger.Given as goal

abbrev pub invariant-loop-level : goal.invariant-loop-level
invariant-loop-level l = l.rows.items ≡ flat_map (spec.level_rows l.schema) (range_with_len 0 l.level)
