use Rattle.std.proofs.Common.{◌≡◌}
use Rattle.tda_places.specs.Spots.{before_query}
use Rattle.tda_places.proofs.spot.before_query.Given as goal

abbrev pub invariant-loop-earlier : goal.invariant-loop-earlier
invariant-loop-earlier l = l.count ≡ before_query l.schema l.level l.earlier
