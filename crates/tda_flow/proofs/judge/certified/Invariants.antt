use Rattle.tda_loss.specs.Curve.{value_of}
use Rattle.tda_flow.specs.Certificate.{NoneBadBelow}
use Rattle.tda_flow.proofs.judge.certified.Given as goal

abbrev pub invariant-loop-i : goal.invariant-loop-i
invariant-loop-i g l = NoneBadBelow (value_of l.loss.curve) l.net l.flow l.prices l.i
