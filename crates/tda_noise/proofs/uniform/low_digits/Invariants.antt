use Rattle.tda_noise.proofs.Digits.{Has}
use Rattle.tda_noise.proofs.uniform.low_digits.Given as goal

abbrev pub invariant-loop-i : goal.invariant-loop-i
invariant-loop-i g l = Has (g.W.Words.words l.fn.w) (g.W.Words.taken l.fn.w) (g.W.Words.words l.w) (g.W.Words.taken l.w) l.i l.number
