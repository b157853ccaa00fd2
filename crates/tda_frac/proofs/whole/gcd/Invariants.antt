-- What is the greatest common divisor of the two numbers at hand is that of the two that were passed.
use Rattle.std.proofs.Common.{ℕ}
use Rattle.std.specs.Int.{IsGcd}
use Rattle.tda_frac.proofs.whole.gcd.Given as goal

abbrev pub invariant-loop-divisor : goal.invariant-loop-divisor
invariant-loop-divisor l = (g : ℕ) → IsGcd l.greater l.divisor g → IsGcd l.fn.a l.fn.b g

abbrev pub decreases-loop-divisor : goal.decreases-loop-divisor
decreases-loop-divisor l = l.divisor
