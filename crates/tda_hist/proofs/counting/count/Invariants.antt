use Rattle.tda_hist.specs.TrueTable.{true_count}
use Rattle.tda_hist.proofs.Adding.{AreAdded}
use Rattle.tda_hist.proofs.counting.count.Given as goal

abbrev pub invariant-loop-place : goal.invariant-loop-place
invariant-loop-place l = AreAdded l.schema l.spine (true_count l.spine l.records) l.place l.tables
