use Rattle.tda_fitnet.proofs.Counted.{AreWritten}
use Rattle.tda_fitnet.proofs.counts.put_unit_counts.Given as goal

abbrev pub invariant-loop-r : goal.invariant-loop-r
invariant-loop-r l = AreWritten l.cells l.flow l.start l.first l.fn.counts l.r l.counts
