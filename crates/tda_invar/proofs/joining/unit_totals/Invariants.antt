use Rattle.tda_invar.proofs.StateTotals.{AreEntered}
use Rattle.tda_invar.proofs.joining.unit_totals.Given as goal

abbrev pub invariant-loop-place : goal.invariant-loop-place
invariant-loop-place l = AreEntered l.spine l.totals l.place l.all.items
