use Rattle.std.proofs.Common.{arith}
use Rattle.std.proofs.Math.Nat.{div-le_self}
use Rattle.tda_frac.proofs.Fractions.{IsReduced-from_gcd, SameNumber-from_gcd}
use Rattle.tda_frac.proofs.frac.Frac.new.Goals as goal

pub invariant_of-result : goal.invariant_of-result
invariant_of-result c =
    IsReduced-from_gcd (record { num = c.args.num; den = c.args.den }) c.gcd-common.result (omega arith) c.gcd-common.ensures.divisor

pub returns-clause-value : goal.returns-clause-value
returns-clause-value c =
    let common = c.gcd-common.ensures.divisor in
    record {
      frac = record {
        reduced = IsReduced-from_gcd (record { num = c.args.num; den = c.args.den }) c.gcd-common.result (omega arith) common;
        fits = record { num = omega (arith, div-le_self c.args.num c.gcd-common.result); den = omega (arith, div-le_self c.args.den c.gcd-common.result) };
      };
      same = SameNumber-from_gcd (record { num = c.args.num; den = c.args.den }) c.gcd-common.result common;
    }
