use Rattle.std.proofs.Common.{◌≡◌, ◌+◌}
use Rattle.tda_places.specs.Spots.{before_query}
use Rattle.tda_places.proofs.spot.query_of_index.Given as goal

abbrev pub invariant-loop-query : goal.invariant-loop-query
invariant-loop-query l = l.fn.index ≡ before_query l.schema l.level l.query + l.rest
