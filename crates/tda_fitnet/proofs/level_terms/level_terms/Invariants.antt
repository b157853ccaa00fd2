-- The queries so far.
use Rattle.std.proofs.Common.{◌≡◌, ◌≤◌, ◌*◌, ◌^◌, All, length, map, take}
use Rattle.tda_model.specs.Commons.{common_of}
use Rattle.tda_model.specs.Deviation.{weight_of}
use Rattle.tda_schema.specs.Stated.{queries_at}
use Rattle.tda_places.specs.Spots.{before_query}
use Rattle.tda_fitnet.specs.TermTable.{AreRowsOf}
use Rattle.tda_fitnet.proofs.level_terms.level_terms.Given as goal

abbrev pub invariant-loop-query : goal.invariant-loop-query
invariant-loop-query l = record {
  weights : l.weights.items ≡ map (weight_of (common_of l.schema)) (take l.query (queries_at l.schema l.level));
  light : All (λ w. w ≤ 2 ^ 24) l.weights.items;
  count : length l.places.items ≡ l.query;
  rows : AreRowsOf l.schema l.level l.tree.groups l.query (record { weights = l.weights.items; places = map (λ row. row.items) l.places.items });
  before : l.before ≡ before_query l.schema l.level l.query;
  few : l.before ≤ l.query * 4096;
}
