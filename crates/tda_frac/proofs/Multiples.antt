-- The least common multiple of two numbers, by their greatest common divisor.
use Rattle.std.proofs.Common.{ℕ, ◌≡◌, ◌*◌, ◌<◌, ◌/◌, arith, sym, subst, ap, ◌∙◌}
use Rattle.std.specs.Int.{IsGcd, ◌∣◌}
use Rattle.std.proofs.Math.Nat.{dvd-mul_left, dvd-mul_right, dvd_of_mul-dvd-mul_left, mul-dvd-mul_right, mul-div_cancel', div-mul_cancel}
use Rattle.std.proofs.lemmas.Nat.Gcd.{dvd_antisymm}
use Rattle.tda_frac.specs.Whole.{IsLcm}
use Rattle.tda_frac.proofs.Divisors.{coprime_from_gcd, dvd_of_coprime}

same_product : (a b a' b' g : ℕ) → g * a' ≡ a → g * b' ≡ b → a * b' ≡ a' * b
same_product a b a' b' g over under =
    let regroup : g * a' * b' ≡ a' * (g * b') = omega arith in
    ap (λ n. n * b') (sym over) ∙ regroup ∙ ap (λ n. a' * n) under

least_multiple : (a b a' b' g k : ℕ) → 0 < g → g * a' ≡ a → g * b' ≡ b → IsGcd a' b' 1 → a ∣ k → b ∣ k → a' * b ∣ k
least_multiple a b a' b' g k some over under apart first second =
    let regroup : g * b' * (k / b) ≡ g * (b' * (k / b)) = omega arith in
    let whole : k ≡ g * (b' * (k / b)) = sym (mul-div_cancel' b second) ∙ ap (λ n. n * (k / b)) (sym under) ∙ regroup in
    let scaled : g * a' ∣ g * (b' * (k / b)) = subst (λ n. g * a' ∣ n) whole (subst (λ n. n ∣ k) (sym over) first) in
    let in_rest : a' ∣ k / b = dvd_of_coprime a' b' (k / b) apart (dvd_of_mul-dvd-mul_left a' some scaled) in
    subst (λ n. a' * b ∣ n) (div-mul_cancel b second) (mul-dvd-mul_right a' in_rest b)

pub IsLcm-product : (a b g : ℕ) → 0 < g → IsGcd a b g → IsLcm a b (a / g * b)
IsLcm-product a b g some common =
    let over : g * (a / g) ≡ a = mul-div_cancel' g common.0 in
    let under : g * (b / g) ≡ b = mul-div_cancel' g common.1 in
    let scaled = subst (λ n. IsGcd n (g * (b / g)) g) (sym over) (subst (λ n. IsGcd a n g) (sym under) common) in
    let apart : IsGcd (a / g) (b / g) 1 = coprime_from_gcd (a / g) (b / g) g some scaled in
    record {
      first = subst (λ n. a ∣ n) (same_product a b (a / g) (b / g) g over under) (dvd-mul_right a (b / g));
      second = dvd-mul_left b (a / g);
      least = λ k first second. least_multiple a b (a / g) (b / g) g k some over under apart first second;
    }

-- two numbers have one least common multiple
pub IsLcm-unique : (a b m n : ℕ) → IsLcm a b m → IsLcm a b n → m ≡ n
IsLcm-unique a b m n p q = dvd_antisymm (p.least n q.first q.second) (q.least m p.first p.second)
