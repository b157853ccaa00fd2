use Rattle.std.proofs.Common.{◌≡◌, ◌++◌, take}
use Rattle.std.specs.List.{flat_map}
use Rattle.tda_ledger.specs.LedgerText as spec
use Rattle.tda_ledger.proofs.write.push_queries.Given as goal

abbrev pub invariant-loop-i : goal.invariant-loop-i
invariant-loop-i l = l.out.items ≡ l.fn.out.items ++ flat_map (spec.query_row l.schema) (take l.i l.ledger.rows)
