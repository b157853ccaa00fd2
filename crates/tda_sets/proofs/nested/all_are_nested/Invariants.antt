use Rattle.std.proofs.Common.{take}
use Rattle.tda_sets.specs.Nested.{AreAllNested, all_sets}
use Rattle.tda_sets.proofs.AllNested.{lent}
use Rattle.tda_sets.proofs.nested.all_are_nested.Given as goal

abbrev pub invariant-loop-place : goal.invariant-loop-place
invariant-loop-place l = AreAllNested (all_sets (lent (take l.place l.families))) (all_sets (lent (take l.place l.families)))
