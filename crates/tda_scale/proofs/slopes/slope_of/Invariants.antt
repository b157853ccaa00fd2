use Rattle.tda_scale.proofs.Rates.{IsFolded}
use Rattle.tda_scale.proofs.slopes.slope_of.Given as goal

abbrev pub invariant-loop-term : goal.invariant-loop-term
invariant-loop-term l = IsFolded l.terms l.term-index l.weight l.pull
