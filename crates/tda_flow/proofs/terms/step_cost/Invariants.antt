use Rattle.tda_loss.specs.Curve.{value_of}
use Rattle.tda_flow.proofs.Steps.{IsStepped}
use Rattle.tda_flow.proofs.terms.step_cost.Given as goal

abbrev pub invariant-loop-term : goal.invariant-loop-term
invariant-loop-term g l = IsStepped (value_of l.loss.curve) l.terms l.x l.term-index l.sum
