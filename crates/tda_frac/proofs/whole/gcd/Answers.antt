use Rattle.std.proofs.Common.{arith}
use Rattle.std.proofs.Math.Nat.{pos_of_dvd_of_pos}
use Rattle.std.proofs.lemmas.Nat.Gcd.{IsGcd-from_zero, IsGcd-from_mod}
use Rattle.tda_frac.proofs.whole.gcd.Goals as goal

pub loop-divisor-preserved : goal.loop-divisor-preserved
loop-divisor-preserved c g h = c.loop-divisor.invariant g (IsGcd-from_mod _ _ g h)

pub returns-clause-divisor : goal.returns-clause-divisor
returns-clause-divisor c = c.loop-divisor.invariant _ (IsGcd-from_zero _ _ (omega arith))

pub returns-clause-some : goal.returns-clause-some
returns-clause-some c some =
    let h = c.loop-divisor.invariant _ (IsGcd-from_zero _ _ (omega arith)) in
    pos_of_dvd_of_pos h.1 some
