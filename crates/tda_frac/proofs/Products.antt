-- A fraction times a whole number.
use Rattle.std.proofs.Common.{ℕ, ◌≡◌, ◌*◌, ◌≤◌, ◌/◌, ◌%◌, sym, ap, ◌∙◌}
use Rattle.std.proofs.Math.Nat.{eq_of_mul-eq-mul_right, div-mul_cancel, dvd_of_mod-eq-zero, mul-mod_left}
use Rattle.tda_frac.specs.Fraction.{Fraction, IsProduct}

pub IsProduct-quotient : (f : Fraction) (l n m d : ℕ) → n ≡ f.num → m ≡ l → d ≡ f.den → n * m % d ≡ 0 → IsProduct f l (n * m / d)
IsProduct-quotient f l n m d num by den whole =
    ap (λ k. n * m / d * k) (sym den) ∙ div-mul_cancel d (dvd_of_mod-eq-zero d whole) ∙ ap (λ k. k * m) num ∙ ap (λ k. f.num * k) by

pub IsProduct-unique : (f : Fraction) (l w v : ℕ) → 1 ≤ f.den → IsProduct f l w → IsProduct f l v → w ≡ v
IsProduct-unique f l w v some p q = eq_of_mul-eq-mul_right f.den some w v (p ∙ sym q)

pub rest_of_product : (f : Fraction) (l n m d w : ℕ) → n ≡ f.num → m ≡ l → d ≡ f.den → IsProduct f l w → n * m % d ≡ 0
rest_of_product f l n m d w num by den product =
    ap (λ k. k % d) (ap (λ k. k * m) num ∙ ap (λ k. f.num * k) by ∙ sym product ∙ ap (λ k. w * k) (sym den)) ∙ mul-mod_left w d
