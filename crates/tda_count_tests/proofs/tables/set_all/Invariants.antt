use Rattle.tda_out.specs.Counts.{AreCountsOf}
use Rattle.tda_count_tests.proofs.tables.set_all.Given as goal

abbrev pub invariant-loop-unit : goal.invariant-loop-unit
invariant-loop-unit g l = AreCountsOf l.schema l.spine l.tables
