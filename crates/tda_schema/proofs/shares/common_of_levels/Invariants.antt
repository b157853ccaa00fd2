use Rattle.std.proofs.Common.{◌≡◌, ◌≤◌, ◌^◌, take}
use Rattle.tda_schema.specs.Shares as spec
use Rattle.tda_schema.proofs.shares.common_of_levels.Given as goal

abbrev pub invariant-loop-level : goal.invariant-loop-level
invariant-loop-level l = record {
  some : 1 ≤ l.common;
  small : l.common ≤ 2 ^ 20;
  so_far : l.common ≡ spec.common_after 1 (spec.queries_in (take l.level-index l.levels));
}
