use Rattle.std.proofs.Common.{◌≡◌, ◌≤◌, ◌*◌, ◌^◌, take}
use Rattle.std.specs.List.{sum_by}
use Rattle.tda_model.specs.Deviation.{weight_of}
use Rattle.tda_schema.proofs.shares.weights_of_queries.Given as goal

abbrev pub invariant-loop-query : goal.invariant-loop-query
invariant-loop-query l = record {
  so_far : l.sum ≡ sum_by (weight_of l.common) (take l.query-index l.queries);
  bound : l.sum ≤ l.query-index * (16 * 2 ^ 20);
}
