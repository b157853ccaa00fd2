use Rattle.std.proofs.Common.{◌≡◌, ◌++◌, map}
use Rattle.std.specs.List.{range_with_len}
use Rattle.tda_ledger.specs.Ledger as spec
use Rattle.tda_ledger.proofs.make.push_level.Given as goal

abbrev pub invariant-loop-query : goal.invariant-loop-query
invariant-loop-query l = l.rows.items ≡ l.fn.rows.items ++ map (spec.row_at l.schema l.level) (range_with_len 0 l.query)
