use Rattle.tda_loss.specs.Curve.{value_of}
use Rattle.tda_descent.proofs.Values.{IsFlowSum}
use Rattle.tda_descent.proofs.deviation.flow_deviation.Given as goal

abbrev pub invariant-loop-arc : goal.invariant-loop-arc
invariant-loop-arc g l = IsFlowSum (value_of l.loss.curve) l.net l.flow l.arc l.sum
