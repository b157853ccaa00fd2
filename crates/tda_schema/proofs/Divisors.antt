-- The greatest and the first of the numbers that pass a test: greatest common divisors and least common multiples.
use Rattle.std.proofs.Common.{ℕ, zero, suc, ◌≡◌, ◌≤◌, ◌<◌, ◌+◌, ◌*◌, ◌%◌, ◌&&◌, ◌⊎◌, Bool, true, false, cond, max, ◌∷◌, filter, find, fold, Some, unwrap_or, inl, inr, refl, ap, ◌∙◌, arith}
use Rattle.std.specs.Int.{IsGcd, ◌∣◌}
use Rattle.std.specs.List.{range_with_len}
use Rattle.std.proofs.Math.Nat.{le-max_left, le-max_right}
use Rattle.std.proofs.lemmas.Bool.{cases_lt, and_parts, and_from, eqb-true, eq-eqb}
use Rattle.std.proofs.lemmas.Nat.Gcd.{dvd_of_mod-eq-zero, mod-eq-zero_of_dvd, le_of_dvd}
use Rattle.tda_frac.specs.Whole.{IsLcm}
use Rattle.tda_schema.specs.Lowest.{divides, gcd, lcm}

pub divides-dvd : (d n : ℕ) → divides d n ≡ true → d ∣ n
divides-dvd d n h = dvd_of_mod-eq-zero d (eqb-true (n % d) 0 h)

pub dvd-divides : (d n : ℕ) → d ∣ n → divides d n ≡ true
dvd-divides d n h = eq-eqb (n % d) 0 (mod-eq-zero_of_dvd d h)

module _ (p : ℕ → Bool) where
  -- the greatest of so many numbers from s on that pass, and of m
  abbrev greatest : ℕ → ℕ → ℕ → ℕ
  greatest m s n = fold max m (filter p (range_with_len s n))

  at_least : (m s n : ℕ) → m ≤ greatest m s n
  at_least m s zero = omega arith
  at_least m s (suc n) = by (p s) (λ k. at_least k (s + 1) n)
    where
      by : (b : Bool) → ((k : ℕ) → k ≤ greatest k (s + 1) n) → m ≤ fold max m (cond b (s ∷ filter p (range_with_len (s + 1) n)) (filter p (range_with_len (s + 1) n)))
      by true rest = omega (arith, rest (max m s), le-max_left m s)
      by false rest = rest m

  pub none_greater : (m s n k : ℕ) → s ≤ k → k < s + n → p k ≡ true → k ≤ greatest m s n
  none_greater m s zero k low high passes = absurd (omega arith)
  none_greater m s (suc n) k low high passes = by (p s) refl (λ m less. none_greater m (s + 1) n k less (omega arith) passes)
    where
      by : (b : Bool) → p s ≡ b → ((m : ℕ) → s + 1 ≤ k → k ≤ greatest m (s + 1) n)
          → k ≤ fold max m (cond b (s ∷ filter p (range_with_len (s + 1) n)) (filter p (range_with_len (s + 1) n)))
      by true is later = elim (cases_lt s k) [
        | inl less ↦ later (max m s) (omega (arith, less))
        | inr same ↦ omega (arith, at_least (max m s) (s + 1) n, le-max_right m s)
      ]
      by false is later =
          let other : (s ≡ k → ⊥) = λ same. let fails : p s ≡ p k = ap p same in absurd cc in
          later m (omega (arith, other))

  pub greatest_passes : (m s n : ℕ) → (greatest m s n ≡ m) ⊎ (p (greatest m s n) ≡ true)
  greatest_passes m s zero = inl refl
  greatest_passes m s (suc n) = by (p s) refl (λ k. greatest_passes k (s + 1) n)
    where
      by : (b : Bool) → p s ≡ b → ((k : ℕ) → (greatest k (s + 1) n ≡ k) ⊎ (p (greatest k (s + 1) n) ≡ true))
          → let g = fold max m (cond b (s ∷ filter p (range_with_len (s + 1) n)) (filter p (range_with_len (s + 1) n))) in (g ≡ m) ⊎ (p g ≡ true)
      by true is rest = elim (rest (max m s)) [
        | inl e ↦ elim (cases_lt m s) [
          | inl less ↦ let here : greatest (max m s) (s + 1) n ≡ s = omega (arith, e, less) in inr (ap p here ∙ is)
          | inr more ↦ inl (omega (arith, e, more))
        ]
        | inr passes ↦ inr passes
      ]
      by false is rest = rest m

  -- the first number that passes is no greater than another one
  pub first_passes : (s n k : ℕ) → s ≤ k → k < s + n → p k ≡ true → (m : ℕ) × (find p (range_with_len s n) ≡ Some m) × (p m ≡ true) × (s ≤ m) × (m ≤ k)
  first_passes s zero k low high passes = absurd (omega arith)
  first_passes s (suc n) k low high passes = by (p s) refl (λ less. first_passes (s + 1) n k less (omega arith) passes)
    where
      by : (b : Bool) → p s ≡ b → (s + 1 ≤ k → (m : ℕ) × (find p (range_with_len (s + 1) n) ≡ Some m) × (p m ≡ true) × (s + 1 ≤ m) × (m ≤ k))
          → (m : ℕ) × (cond b (Some s) (find p (range_with_len (s + 1) n)) ≡ Some m) × (p m ≡ true) × (s ≤ m) × (m ≤ k)
      by true is later = (s, refl, is, omega arith, low)
      by false is later =
          let other : (s ≡ k → ⊥) = λ same. let fails : p s ≡ p k = ap p same in absurd cc in
          let rest = later (omega (arith, other)) in
          (rest.0, rest.1, rest.2, omega (arith, rest.3), rest.4)

-- the definition's greatest common divisor is the one that each common divisor divides
pub gcd_is : (a b g : ℕ) → 0 < g → g ≤ a + b → IsGcd a b g → gcd a b ≡ g
unfolding gcd
gcd_is a b g some high is =
    let p : ℕ → Bool = λ d. divides d a && divides d b in
    let top = fold max 0 (filter p (range_with_len 0 (a + b + 1))) in
    let passes : p g ≡ true = and_from (divides g a) (divides g b) (dvd-divides g a is.0) (dvd-divides g b is.1) in
    let least : g ≤ top = none_greater p 0 0 (a + b + 1) g (omega arith) (omega arith) passes in
    elim (greatest_passes p 0 0 (a + b + 1)) [
      | inl none ↦ absurd (omega (arith, none, least))
      | inr found ↦
          let parts = and_parts (divides top a) (divides top b) found in
          let most : top ≤ g = le_of_dvd some (is.2 top (divides-dvd top a parts.0) (divides-dvd top b parts.1)) in
          omega (arith, least, most)
    ]

-- and its least common multiple the one that divides each common multiple
pub lcm_is : (a b m : ℕ) → 1 ≤ m → m ≤ a * b → IsLcm a b m → lcm a b ≡ m
unfolding lcm
lcm_is a b m some high is =
    let p : ℕ → Bool = λ k. divides a k && divides b k in
    let passes : p m ≡ true = and_from (divides a m) (divides b m) (dvd-divides a m is.first) (dvd-divides b m is.second) in
    let found = first_passes p 1 (a * b) m some (omega (arith, high)) passes in
    let parts = and_parts (divides a found.0) (divides b found.0) found.2 in
    let least : m ≤ found.0 = le_of_dvd found.3 (is.least found.0 (divides-dvd a found.0 parts.0) (divides-dvd b found.0 parts.1)) in
    let same : found.0 ≡ m = omega (arith, least, found.4) in
    ap (λ o. unwrap_or o 0) found.1 ∙ same
