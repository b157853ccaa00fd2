use Rattle.tda_sets.proofs.Kept.{AreKept}
use Rattle.tda_sets.proofs.nested.kept_sets.Given as goal

abbrev pub invariant-loop-number : goal.invariant-loop-number
invariant-loop-number l = AreKept l.names l.others l.number l.kept.items
