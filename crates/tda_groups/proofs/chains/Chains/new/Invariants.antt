use Rattle.tda_groups.proofs.Walked.{IsWalked}
use Rattle.tda_groups.proofs.chains.Chains.new.Given as goal

abbrev pub invariant-loop-number : goal.invariant-loop-number
invariant-loop-number l = IsWalked l.fn.groups.items l.cells l.number l.next.items l.smallest.items
