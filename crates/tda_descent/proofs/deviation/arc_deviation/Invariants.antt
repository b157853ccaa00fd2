use Rattle.tda_loss.specs.Curve.{value_of}
use Rattle.tda_descent.proofs.Values.{IsArcSum}
use Rattle.tda_descent.proofs.deviation.arc_deviation.Given as goal

abbrev pub invariant-loop-term : goal.invariant-loop-term
invariant-loop-term g l = IsArcSum (value_of l.loss.curve) l.terms l.x l.term-index l.sum
