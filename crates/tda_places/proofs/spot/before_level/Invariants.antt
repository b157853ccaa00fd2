use Rattle.std.proofs.Common.{◌≡◌, ◌≤◌, ◌*◌, ◌^◌}
use Rattle.tda_places.specs.Spots.{before_level}
use Rattle.tda_places.proofs.spot.before_level.Given as goal

abbrev pub invariant-loop-earlier : goal.invariant-loop-earlier
invariant-loop-earlier l = record { count : l.count ≡ before_level l.schema l.spine l.earlier; few : l.count ≤ l.earlier * 2 ^ 32 }
