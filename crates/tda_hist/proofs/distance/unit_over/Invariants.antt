use Rattle.tda_hist.proofs.Climbing.{IsAbove}
use Rattle.tda_hist.proofs.distance.unit_over.Given as goal

abbrev pub invariant-loop : goal.invariant-loop
invariant-loop l = IsAbove l.spine l.block l.level l.unit l.counter
