use Rattle.std.proofs.Common.{take}
use Rattle.tda_sets.specs.Family.{sets_of}
use Rattle.tda_sets.specs.Nested.{AreAllNested, all_sets}
use Rattle.tda_sets.proofs.AllNested.{lent}
use Rattle.tda_sets.proofs.nested.is_nested_with.Given as goal

abbrev pub invariant-loop-other : goal.invariant-loop-other
invariant-loop-other l = AreAllNested (sets_of l.family) (all_sets (lent (take l.other-index l.others)))
