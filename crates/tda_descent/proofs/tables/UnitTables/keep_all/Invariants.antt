use Rattle.tda_descent.proofs.TablesMore.{AreKept}
use Rattle.tda_descent.proofs.tables.UnitTables.keep_all.Given as goal

abbrev pub invariant-loop-n : goal.invariant-loop-n
invariant-loop-n l = AreKept l.spine l.cells l.fit.counts.items l.fit.units.items l.n l.fn.self l.self
