use Rattle.std.proofs.Common.{◌≡◌, ◌≤◌, ◌*◌, ◌^◌}
use Rattle.tda_places.specs.Spots.{before_level}
use Rattle.tda_fitnet.proofs.first_place.level_first.Given as goal

abbrev pub invariant-loop-earlier : goal.invariant-loop-earlier
invariant-loop-earlier l = record { count : l.first ≡ before_level l.schema l.spine l.earlier; few : l.first ≤ l.earlier * 2 ^ 32 }
