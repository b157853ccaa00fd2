use Rattle.std.proofs.Common.{◌≡◌, ◌<◌, ◌+◌, ◌*◌, ◌^◌, ◌/◌, ◌%◌, arith, subst, ap, ◌∙◌}
use Rattle.std.proofs.lemmas.Bool.{false≢true}
use Rattle.std.specs.Int.{IsGcd}
use Rattle.tda_frac.specs.Fraction.{sum_of}
use Rattle.tda_frac.proofs.Fractions.{numerator_below_at, lowest_sum_at, value_where_fits, answer_where_fits, sum_by, product_by}
use Rattle.tda_frac.proofs.frac.Frac.add.Goals as goal

pub returns-in_err-sum-clause-fits : goal.returns-in_err-sum-clause-fits
returns-in_err-sum-clause-fits c =
    let common = c.gcd-common.result in
    let i = c.self.inside in
    let j = c.other.inside in
    let sum = sum_by _ _ _ _ i.num (j.den / common) j.num (i.den / common) c.from.ensures c.from-2.ensures c.from-3.ensures c.from-4.ensures in
    let small : j.den < 2 ^ 64 = omega arith in
    (λ some. absurd (false≢true (rw c.from_residual.ensures at some)), λ found. absurd (c.in_err-sum.ensures (numerator_below_at _ _ c.args.self c.args.other common _ c.self.view_is c.other.view_is c.self.invariant c.other.invariant small c.gcd-common.ensures.divisor sum found)))

pub from_lowest_terms-requires : goal.from_lowest_terms-requires
from_lowest_terms-requires c =
    let common = c.gcd-common.result in
    let s = c.gcd-shared.result in
    let t = c.in_ok-sum.sum in
    let i = c.self.inside in
    let j = c.other.inside in
    let sum : t ≡ i.num * (j.den / common) + j.num * (i.den / common) = c.in_ok-sum.ensures.1 ∙ sum_by _ _ _ _ i.num (j.den / common) j.num (i.den / common) c.from.ensures c.from-2.ensures c.from-3.ensures c.from-4.ensures in
    let rest : IsGcd (t % common) common s = subst (λ m. IsGcd (t % m) common s) c.from-5.ensures c.gcd-shared.ensures.divisor in
    let num : t / c.from-8.result ≡ t / s = ap (λ m. t / m) c.from-8.ensures in
    let den = product_by _ _ (i.den / common) (j.den / s) c.from-6.ensures c.from-7.ensures in
    (lowest_sum_at _ _ c.args.self c.args.other common t s _ _ c.self.view_is c.other.view_is c.self.invariant c.other.invariant c.gcd-common.ensures.divisor sum rest num den).reduced

pub returns-clause-sum : goal.returns-clause-sum
returns-clause-sum c =
    let common = c.gcd-common.result in
    let s = c.gcd-shared.result in
    let t = c.in_ok-sum.sum in
    let i = c.self.inside in
    let j = c.other.inside in
    let sum : t ≡ i.num * (j.den / common) + j.num * (i.den / common) = c.in_ok-sum.ensures.1 ∙ sum_by _ _ _ _ i.num (j.den / common) j.num (i.den / common) c.from.ensures c.from-2.ensures c.from-3.ensures c.from-4.ensures in
    let rest : IsGcd (t % common) common s = subst (λ m. IsGcd (t % m) common s) c.from-5.ensures c.gcd-shared.ensures.divisor in
    let num : t / c.from-8.result ≡ t / s = ap (λ m. t / m) c.from-8.ensures in
    let den = product_by _ _ (i.den / common) (j.den / s) c.from-6.ensures c.from-7.ensures in
    let lowest = lowest_sum_at _ _ c.args.self c.args.other common t s _ _ c.self.view_is c.other.view_is c.self.invariant c.other.invariant c.gcd-common.ensures.divisor sum rest num den in
    value_where_fits c.from_lowest_terms.result _ (sum_of c.args.self c.args.other) lowest c.from_lowest_terms.ensures.value c.from_lowest_terms.ensures.fits

pub returns-clause-fits : goal.returns-clause-fits
returns-clause-fits c =
    let common = c.gcd-common.result in
    let s = c.gcd-shared.result in
    let t = c.in_ok-sum.sum in
    let i = c.self.inside in
    let j = c.other.inside in
    let sum : t ≡ i.num * (j.den / common) + j.num * (i.den / common) = c.in_ok-sum.ensures.1 ∙ sum_by _ _ _ _ i.num (j.den / common) j.num (i.den / common) c.from.ensures c.from-2.ensures c.from-3.ensures c.from-4.ensures in
    let rest : IsGcd (t % common) common s = subst (λ m. IsGcd (t % m) common s) c.from-5.ensures c.gcd-shared.ensures.divisor in
    let num : t / c.from-8.result ≡ t / s = ap (λ m. t / m) c.from-8.ensures in
    let den = product_by _ _ (i.den / common) (j.den / s) c.from-6.ensures c.from-7.ensures in
    let lowest = lowest_sum_at _ _ c.args.self c.args.other common t s _ _ c.self.view_is c.other.view_is c.self.invariant c.other.invariant c.gcd-common.ensures.divisor sum rest num den in
    answer_where_fits c.from_lowest_terms.result _ (sum_of c.args.self c.args.other) lowest c.from_lowest_terms.ensures.fits
