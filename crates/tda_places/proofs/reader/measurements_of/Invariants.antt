use Rattle.std.proofs.Common.{length}
use Rattle.tda_places.proofs.Gathering.{Gathers}
use Rattle.tda_places.proofs.reader.measurements_of.Given as goal

abbrev pub invariant-loop-numbers : goal.invariant-loop-numbers
invariant-loop-numbers l = Gathers l.schema l.spine l.initial.rows l.rows l.numbers.items l.last

abbrev pub decreases-loop-numbers : goal.decreases-loop-numbers
decreases-loop-numbers l = length l.rows.rest
