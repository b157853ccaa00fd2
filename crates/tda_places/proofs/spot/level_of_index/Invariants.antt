use Rattle.std.proofs.Common.{◌≡◌, ◌+◌}
use Rattle.tda_places.specs.Spots.{before_level}
use Rattle.tda_places.proofs.spot.level_of_index.Given as goal

abbrev pub invariant-loop-level : goal.invariant-loop-level
invariant-loop-level l = l.fn.index ≡ before_level l.schema l.spine l.level + l.rest
