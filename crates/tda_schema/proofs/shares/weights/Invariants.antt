use Rattle.std.proofs.Common.{◌≡◌, ◌≤◌, ◌*◌, ◌^◌, take}
use Rattle.std.specs.List.{sum_by}
use Rattle.tda_model.specs.Deviation.{weight_of}
use Rattle.tda_schema.specs.Shares.{queries_in}
use Rattle.tda_schema.proofs.shares.weights.Given as goal

abbrev pub invariant-loop-level : goal.invariant-loop-level
invariant-loop-level l = record {
  so_far : l.sum ≡ sum_by (weight_of l.common) (queries_in (take l.level-index l.levels));
  bound : l.sum ≤ l.level-index * (8 * (16 * 2 ^ 20));
}
