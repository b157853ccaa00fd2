use Rattle.std.proofs.Common.{subst}
use Rattle.tda_frac.specs.Fraction.{IsReduced}
use Rattle.tda_frac.proofs.Fractions.{same_from_SameNumber}
use Rattle.tda_frac.proofs.frac.Frac.den.Goals as goal

pub returns-clause-only : goal.returns-clause-only
returns-clause-only c =
    let low : IsReduced c.args.self = subst IsReduced c.self.view_is c.self.invariant in
    λ g other same. same_from_SameNumber g c.args.self other low same
