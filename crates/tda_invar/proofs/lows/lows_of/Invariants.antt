use Rattle.std.proofs.Common.{ℕ, List}
use Rattle.tda_invar.proofs.Raising.{AreRaised}
use Rattle.tda_invar.proofs.lows.lows_of.Given as goal

abbrev pub invariant-loop-place : goal.invariant-loop-place
invariant-loop-place l = (totals : List ℕ) → AreRaised l.spine l.facilities totals l.place l.lows
