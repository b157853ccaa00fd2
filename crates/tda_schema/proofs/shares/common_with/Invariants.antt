use Rattle.std.proofs.Common.{◌≡◌, ◌≤◌, ◌^◌, take}
use Rattle.tda_schema.specs.Shares as spec
use Rattle.tda_schema.proofs.shares.common_with.Given as goal

abbrev pub invariant-loop-query : goal.invariant-loop-query
invariant-loop-query l = record {
  some : 1 ≤ l.common;
  small : l.common ≤ 2 ^ 20;
  so_far : l.common ≡ spec.common_after l.earlier (take l.query-index l.queries);
}
