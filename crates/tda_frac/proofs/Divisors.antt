-- Common divisors: a number that shares no divisor with one factor and divides a product divides the
-- other factor.
use Rattle.std.proofs.Common.{ℕ, zero, suc, ◌≡◌, ◌+◌, ◌*◌, ◌<◌, ◌≤◌, ◌%◌, ◌/◌, arith, sym, subst, ap, ◌∙◌}
use Rattle.std.specs.Int.{IsGcd, ◌∣◌}
use Rattle.std.proofs.Math.Nat.{one-dvd, dvd-add, dvd-add_iff_right, dvd-add_iff_left, dvd-mul_left_of_dvd, dvd-mul_right, dvd_of_mul-dvd-mul_left, mul-dvd-mul_left, mul-one, one-mul}
use Rattle.std.proofs.lemmas.Nat.{div-add-mod', mod_below}
use Rattle.std.proofs.lemmas.Nat.Gcd.{IsGcd-from_zero, same_from_IsGcd, dvd_trans}

-- one step of Euclid's algorithm, by quotient and rest
IsGcd-from_step : (a b q r g : ℕ) → a ≡ q * b + r → IsGcd b r g → IsGcd a b g
IsGcd-from_step a b q r g e h =
    (subst (λ n. g ∣ n) (sym e) (dvd-add g (dvd-mul_left_of_dvd g h.0 q) h.1), h.0, λ d da db. h.2 d db ((dvd-add_iff_right d (dvd-mul_left_of_dvd d db q)).1 (subst (λ n. d ∣ n) e da)))

step_scaled : (a q m r c : ℕ) → q * m + r ≡ a → a * c ≡ q * (m * c) + r * c
step_scaled a q m r c e =
    let out : (q * m + r) * c ≡ q * (m * c) + r * c = omega arith in
    ap (λ n. n * c) (sym e) ∙ out

-- Euclid's algorithm takes the same steps on two numbers times c
scaled_gcd : (turns a b : ℕ) → b ≤ turns → (g : ℕ) × ((c : ℕ) → IsGcd (a * c) (b * c) (g * c))
scaled_gcd turns a zero few = (a, λ c. IsGcd-from_zero (a * c) (zero * c) (omega arith))
scaled_gcd zero a (suc b) few = absurd (omega arith)
scaled_gcd (suc turns) a (suc b) few =
    let below : a % suc b < suc b = mod_below a (suc b) (omega arith) in
    let rest = scaled_gcd turns (suc b) (a % suc b) (omega arith) in
    (rest.0, λ c. IsGcd-from_step (a * c) (suc b * c) (a / suc b) (a % suc b * c) (rest.0 * c) (step_scaled a (a / suc b) (suc b) (a % suc b) c (div-add-mod' a (suc b))) (rest.1 c))

IsGcd-one : (a b g : ℕ) → IsGcd (a * 1) (b * 1) (g * 1) → IsGcd a b g
IsGcd-one a b g h = rw (mul-one a, mul-one b, mul-one g) at h

-- any two numbers have a greatest common divisor
pub some_gcd : (a b : ℕ) → (g : ℕ) × IsGcd a b g
some_gcd a b = let s = scaled_gcd b a b (omega arith) in (s.0, IsGcd-one a b s.0 (s.1 1))

pub IsGcd-scaled : (a b g c : ℕ) → IsGcd a b g → IsGcd (a * c) (b * c) (g * c)
IsGcd-scaled a b g c h =
    let s = scaled_gcd b a b (omega arith) in
    subst (λ k. IsGcd (a * c) (b * c) (k * c)) (same_from_IsGcd a b s.0 g (IsGcd-one a b s.0 (s.1 1)) h) (s.1 c)

-- two numbers are coprime where 1 alone divides both
pub coprime : (a b : ℕ) → ((d : ℕ) → d ∣ a → d ∣ b → d ∣ 1) → IsGcd a b 1
coprime a b h = (one-dvd a, one-dvd b, h)

-- Gauss's lemma
pub dvd_of_coprime : (e a x : ℕ) → IsGcd e a 1 → e ∣ a * x → e ∣ x
dvd_of_coprime e a x apart divides =
    subst (λ n. e ∣ n) (one-mul x) ((IsGcd-scaled e a 1 x apart).2 e (dvd-mul_right e x) divides)

-- two numbers over their greatest common divisor are coprime
pub coprime_from_gcd : (a b g : ℕ) → 0 < g → IsGcd (g * a) (g * b) g → IsGcd a b 1
coprime_from_gcd a b g some h =
    coprime a b (λ d da db. dvd_of_mul-dvd-mul_left d some (subst (λ n. g * d ∣ n) (sym (mul-one g)) (h.2 (g * d) (mul-dvd-mul_left d g da) (mul-dvd-mul_left d g db))))

-- a/b + c/d over the least common denominator, where b is g b' and d is g d' : the sum of the numerators
-- shares no divisor with b'
pub sum_coprime : (a c b' d' g x : ℕ) → IsGcd a (g * b') 1 → IsGcd b' d' 1 → x ∣ a * d' + c * b' → x ∣ b' → x ∣ 1
sum_coprime a c b' d' g x lowest apart sum divides =
    let second : x ∣ c * b' = dvd-mul_left_of_dvd x divides c in
    let first : x ∣ a * d' = (dvd-add_iff_left x second).1 sum in
    let free : IsGcd x a 1 = coprime x a (λ y yx ya. lowest.2 y ya (dvd_trans y yx (dvd-mul_left_of_dvd x divides g))) in
    apart.2 x divides (dvd_of_coprime x a d' free first)
