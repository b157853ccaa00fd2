-- Greatest common divisors, least common multiples and lowest terms are what their names say.
use Rattle.std.proofs.Common.{ℕ, zero, suc, ◌≡◌, ◌≤◌, ◌<◌, ◌*◌, ◌/◌, ◌&&◌, find, unwrap_or, arith, refl, sym, ap, subst}
use Rattle.std.specs.Int.{IsGcd}
use Rattle.std.specs.List.{range_with_len}
use Rattle.std.proofs.Math.Nat.{pos_of_dvd_of_pos, dvd-mul_left, dvd-mul_right, mul-pos}
use Rattle.std.proofs.lemmas.Nat.Gcd.{IsGcd-from_zero, dvd_refl, dvd-zero, le_of_dvd}
use Rattle.tda_frac.specs.Fraction.{Fraction, IsReduced, SameNumber}
use Rattle.tda_frac.specs.Whole.{IsLcm}
use Rattle.tda_frac.proofs.Divisors.{some_gcd}
use Rattle.tda_frac.proofs.Fractions.{IsReduced-from_gcd, SameNumber-from_gcd, SameNumber-trans, same_from_SameNumber}
use Rattle.tda_frac.proofs.Multiples.{IsLcm-product}
use Rattle.tda_schema.specs.Lowest.{divides, gcd, lcm, lowest}
use Rattle.tda_schema.proofs.Divisors.{gcd_is, lcm_is}

no_divisor : gcd 0 0 ≡ 0
unfolding gcd
no_divisor = refl

pub IsGcd-gcd : (a b : ℕ) → IsGcd a b (gcd a b)
IsGcd-gcd zero zero = subst (IsGcd 0 0) (sym no_divisor) (IsGcd-from_zero 0 0 refl)
IsGcd-gcd zero (suc b) =
    let common = some_gcd zero (suc b) in
    let some = pos_of_dvd_of_pos common.1.1 (omega arith) in
    let few : common.0 ≤ suc b = le_of_dvd (omega arith) common.1.1 in
    subst (IsGcd zero (suc b)) (sym (gcd_is zero (suc b) common.0 some (omega (arith, few)) common.1)) common.1
IsGcd-gcd (suc a) b =
    let common = some_gcd (suc a) b in
    let some = pos_of_dvd_of_pos common.1.0 (omega arith) in
    let few : common.0 ≤ suc a = le_of_dvd (omega arith) common.1.0 in
    subst (IsGcd (suc a) b) (sym (gcd_is (suc a) b common.0 some (omega (arith, few)) common.1)) common.1

no_multiple : (b : ℕ) → lcm 0 b ≡ 0
unfolding lcm
no_multiple b = let none : 0 * b ≡ 0 = omega arith in ap (λ n. unwrap_or (find (λ m. divides 0 m && divides b m) (range_with_len 1 n)) 0) none

pub IsLcm-lcm : (a b : ℕ) → 1 ≤ b → IsLcm a b (lcm a b)
IsLcm-lcm zero b some = subst (IsLcm zero b) (sym (no_multiple b)) (record { first = dvd_refl 0; second = dvd-zero b; least = λ k first second. first })
IsLcm-lcm (suc a) b some =
    let common = some_gcd (suc a) b in
    let multiple = IsLcm-product (suc a) b common.0 (pos_of_dvd_of_pos common.1.1 some) common.1 in
    let product : 0 < suc a * b = mul-pos (omega arith) some in
    let divides_product = multiple.least (suc a * b) (dvd-mul_right (suc a) b) (dvd-mul_left b (suc a)) in
    subst (IsLcm (suc a) b) (sym (lcm_is (suc a) b (suc a / common.0 * b) (pos_of_dvd_of_pos divides_product product) (le_of_dvd product divides_product) multiple)) multiple

pub IsReduced-lowest : (f : Fraction) → 1 ≤ f.den → IsReduced (lowest f)
unfolding lowest
IsReduced-lowest f some = IsReduced-from_gcd f (gcd f.num f.den) some (IsGcd-gcd f.num f.den)

pub SameNumber-lowest : (f : Fraction) → SameNumber (lowest f) f
unfolding lowest
SameNumber-lowest f = SameNumber-from_gcd f (gcd f.num f.den) (IsGcd-gcd f.num f.den)

-- no other fraction in lowest terms is the same number
pub lowest-is : (f g : Fraction) → 1 ≤ f.den → IsReduced g → SameNumber g f → g ≡ lowest f
lowest-is f g some reduced same =
    let back : SameNumber f (lowest f) = sym (SameNumber-lowest f) in
    same_from_SameNumber g (lowest f) reduced (IsReduced-lowest f some) (SameNumber-trans g f (lowest f) some same back)
