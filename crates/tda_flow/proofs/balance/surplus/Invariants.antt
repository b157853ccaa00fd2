use Rattle.tda_flow.specs.Turns.{turn_limit}
use Rattle.tda_flow.proofs.Surplus.{IsSummed}
use Rattle.tda_flow.proofs.balance.surplus.Given as goal

abbrev pub invariant-loop-next : goal.invariant-loop-next
invariant-loop-next l = IsSummed l.net l.flow l.v l.sum l.next

abbrev pub decreases-loop-next : goal.decreases-loop-next
decreases-loop-next l = turn_limit l.next
