use Rattle.tda_groups.proofs.Once.{IsGathered}
use Rattle.tda_groups.proofs.order.distinct.Given as goal

abbrev pub invariant-loop-set : goal.invariant-loop-set
invariant-loop-set l = IsGathered l.fn.sets.items l.yielded l.groups.items
