-- Fractions as rational numbers.
use Rattle.std.proofs.Common.{ℕ, ◌≡◌, ◌+◌, ◌*◌, ◌^◌, ◌<◌, ◌≤◌, ◌/◌, ◌%◌, arith, refl, sym, subst, ap, ◌∙◌, ◌↔◌, Option, Some, None, IfSome, IsSome}
use Rattle.std.specs.Int.{IsGcd, ◌∣◌}
use Rattle.std.proofs.Math.Nat.{dvd-mul_left, dvd-mul_left_of_dvd, mul-div_cancel', pos_of_dvd_of_pos, eq_of_mul-eq-mul_left, eq_of_mul-eq-mul_right, add_comm, mul-pos}
use Rattle.std.proofs.lemmas.Nat.{mul-lt}
use Rattle.std.proofs.lemmas.Nat.Gcd.{IsGcd-swap, IsGcd-from_mod, dvd_trans, dvd_antisymm, le_of_dvd}
use Rattle.tda_frac.specs.Fraction.{Fraction, IsReduced, FitsU64, IsFracOf, SameNumber, sum_of}
use Rattle.tda_frac.proofs.Divisors.{coprime, coprime_from_gcd, dvd_of_coprime, sum_coprime, some_gcd}

pub same_fraction : (f g : Fraction) → f.num ≡ g.num → f.den ≡ g.den → f ≡ g
same_fraction f g p q =
    let with_num : ℕ → Fraction = λ n. record { num = n; den = f.den } in
    let with_den : ℕ → Fraction = λ d. record { num = g.num; den = d } in
    ap with_num p ∙ ap with_den q

-- a denominator in lowest terms divides that of each fraction of the same number
den_divides : (a b c d : ℕ) → IsGcd a b 1 → a * d ≡ c * b → b ∣ d
den_divides a b c d lowest same =
    dvd_of_coprime b a d (IsGcd-swap a b 1 lowest) (subst (λ n. b ∣ n) (sym same) (dvd-mul_left b c))

-- one number has one fraction in lowest terms
pub same_from_SameNumber : (f g : Fraction) → IsReduced f → IsReduced g → SameNumber f g → f ≡ g
same_from_SameNumber f g low_f low_g same =
    let den : f.den ≡ g.den = dvd_antisymm (den_divides f.num f.den g.num g.den low_f.lowest same) (den_divides g.num g.den f.num f.den low_g.lowest (sym same)) in
    let num : f.num ≡ g.num = eq_of_mul-eq-mul_right g.den low_g.denominator f.num g.num (same ∙ ap (λ d. g.num * d) den) in
    same_fraction f g num den

chained : (a b c d e k : ℕ) → 1 ≤ d → a * d ≡ c * b → c * k ≡ e * d → a * k ≡ e * b
chained a b c d e k some first second =
    let turned : a * k * d ≡ a * d * k = omega arith in
    let middle : c * b * k ≡ c * k * b = omega arith in
    let last : e * d * b ≡ e * b * d = omega arith in
    eq_of_mul-eq-mul_right d some (a * k) (e * b) (turned ∙ ap (λ n. n * k) first ∙ middle ∙ ap (λ n. n * b) second ∙ last)

pub SameNumber-trans : (f g h : Fraction) → 1 ≤ g.den → SameNumber f g → SameNumber g h → SameNumber f h
SameNumber-trans f g h some first second = chained f.num f.den g.num g.den h.num h.den some first second

added : (a b c d p q r s : ℕ) → a * q ≡ p * b → c * s ≡ r * d → (a * d + c * b) * (q * s) ≡ (p * s + r * q) * (b * d)
added a b c d p q r s first second =
    let apart : (a * d + c * b) * (q * s) ≡ a * q * (d * s) + c * s * (b * q) = omega arith in
    let joined : p * b * (d * s) + r * d * (b * q) ≡ (p * s + r * q) * (b * d) = omega arith in
    apart ∙ ap (λ n. n * (d * s) + c * s * (b * q)) first ∙ ap (λ n. p * b * (d * s) + n * (b * q)) second ∙ joined

-- sums of the same numbers are the same number
pub SameNumber-sum_of : (f g x y : Fraction) → SameNumber f x → SameNumber g y → SameNumber (sum_of f g) (sum_of x y)
SameNumber-sum_of f g x y first second = added f.num f.den g.num g.den x.num x.den y.num y.den first second

-- a/b + c/d over the least common denominator g b' d', where t is the numerator and s what it shares with g
sum_lowest : (a c b' d' g t s T D : ℕ) → 0 < g → IsGcd a (g * b') 1 → IsGcd c (g * d') 1 → IsGcd (g * b') (g * d') g → t ≡ a * d' + c * b' → t ≡ s * T → g * d' ≡ s * D → IsGcd t g s → IsGcd T (b' * D) 1
sum_lowest a c b' d' g t s T D some low_a low_c common sum top bottom shared =
    let apart : IsGcd b' d' 1 = coprime_from_gcd b' d' g some common in
    let some_s : 0 < s = pos_of_dvd_of_pos shared.1 some in
    let left : g ≡ s * (g / s) = sym (mul-div_cancel' s shared.1) in
    let rest : IsGcd T (g / s) 1 = coprime_from_gcd T (g / s) s some_s (subst (λ n. IsGcd (s * T) n s) left (subst (λ n. IsGcd n g s) top shared)) in
    let regroup : s * (g / s) * d' ≡ s * (d' * (g / s)) = omega arith in
    let split : D ≡ d' * (g / s) = eq_of_mul-eq-mul_left s some_s D (d' * (g / s)) (sym bottom ∙ ap (λ n. n * d') left ∙ regroup) in
    let sums : (x : ℕ) → x ∣ T → x ∣ a * d' + c * b' = λ x h. subst (λ n. x ∣ n) (sym top ∙ sum) (dvd-mul_left_of_dvd x h s) in
    coprime T (b' * D) (λ e over under.
    let free_b : IsGcd e b' 1 = coprime e b' (λ x xe xb. sum_coprime a c b' d' g x low_a apart (sums x (dvd_trans x xe over)) xb) in
    let free_d : IsGcd e d' 1 = coprime e d' (λ x xe xd. sum_coprime c a d' b' g x low_c (IsGcd-swap b' d' 1 apart) (subst (λ n. x ∣ n) (add_comm (a * d') (c * b')) (sums x (dvd_trans x xe over))) xd) in
    let in_d : e ∣ D = dvd_of_coprime e b' D free_b under in
    rest.2 e over (dvd_of_coprime e d' (g / s) free_d (subst (λ n. e ∣ n) split in_d)))

sum_same : (a c b' d d' g t s T D : ℕ) → t ≡ a * d' + c * b' → t ≡ s * T → d ≡ g * d' → d ≡ s * D → T * (g * b' * d) ≡ (a * d + c * (g * b')) * (b' * D)
sum_same a c b' d d' g t s T D sum top common bottom =
    let gather : T * (g * b' * (s * D)) ≡ g * b' * D * (s * T) = omega arith in
    let spread : g * b' * D * (a * d' + c * b') ≡ (a * (g * d') + c * (g * b')) * (b' * D) = omega arith in
    ap (λ n. T * (g * b' * n)) bottom ∙ gather ∙ ap (λ n. g * b' * D * n) (sym top ∙ sum) ∙ spread ∙ ap (λ n. (a * n + c * (g * b')) * (b' * D)) (sym common)

factor_divides : (a b n : ℕ) → a * b ≡ n → b ∣ n
factor_divides a b n e = subst (λ k. b ∣ k) e (dvd-mul_left b a)

-- f is the number g, in lowest terms, whether or not that fits
pub record IsLowestTermsOf (f g : Fraction) : Type 0 where
  pub reduced : IsReduced f
  pub same : SameNumber f g
  pub denominator : 1 ≤ g.den

-- The sum in lowest terms, by Knuth's method: c is what the denominators have in common, t the numerator
-- over their least common multiple, and s what t and c share.
abbrev pub knuth_sum : Fraction → Fraction → ℕ → ℕ → ℕ → Fraction
knuth_sum f g c t s = record { num = t / s; den = f.den / c * (g.den / s) }

pub record IsKnuthSum (f g : Fraction) (c t s : ℕ) : Type 0 where
  pub lowest : IsLowestTermsOf (knuth_sum f g c t s) (sum_of f g)
  pub whole : t ≡ s * (t / s)
  pub small : s ≤ g.den

IsKnuthSum-from_gcd : (f g : Fraction) (c t s : ℕ) → IsReduced f → IsReduced g → IsGcd f.den g.den c → t ≡ f.num * (g.den / c) + g.num * (f.den / c) → IsGcd (t % c) c s → IsKnuthSum f g c t s
IsKnuthSum-from_gcd f g c t s low_f low_g common sum rest =
    let some : 0 < c = pos_of_dvd_of_pos common.1 low_g.denominator in
    let shared : IsGcd t c s = IsGcd-from_mod t c s (IsGcd-swap (t % c) c s rest) in
    let b : c * (f.den / c) ≡ f.den = mul-div_cancel' c common.0 in
    let d : c * (g.den / c) ≡ g.den = mul-div_cancel' c common.1 in
    let in_d : s ∣ g.den = dvd_trans s shared.1 common.1 in
    let top : s * (t / s) ≡ t = mul-div_cancel' s shared.0 in
    let bottom : s * (g.den / s) ≡ g.den = mul-div_cancel' s in_d in
    let low_b = subst (λ n. IsGcd f.num n 1) (sym b) low_f.lowest in
    let low_d = subst (λ n. IsGcd g.num n 1) (sym d) low_g.lowest in
    let both = subst (λ n. IsGcd n (c * (g.den / c)) c) (sym b) (subst (λ n. IsGcd f.den n c) (sym d) common) in
    let lowest = sum_lowest f.num g.num (f.den / c) (g.den / c) c t s (t / s) (g.den / s) some low_b low_d both sum (sym top) (d ∙ sym bottom) shared in
    let same = sum_same f.num g.num (f.den / c) g.den (g.den / c) c t s (t / s) (g.den / s) sum (sym top) (sym d) (sym bottom) in
    record {
      lowest = record {
        reduced = record { denominator = mul-pos (pos_of_dvd_of_pos (factor_divides c (f.den / c) f.den b) low_f.denominator) (pos_of_dvd_of_pos (factor_divides s (g.den / s) g.den bottom) low_g.denominator); lowest = lowest };
        same = subst (λ n. t / s * (n * g.den) ≡ (f.num * g.den + g.num * n) * (f.den / c * (g.den / s))) b same;
        denominator = mul-pos low_f.denominator low_g.denominator;
      };
      whole = sym top;
      small = le_of_dvd low_g.denominator in_d;
    }

-- numbers over their greatest common divisor are the fraction in lowest terms
pub IsReduced-from_gcd : (f : Fraction) (g : ℕ) → 1 ≤ f.den → IsGcd f.num f.den g → IsReduced (record { num = f.num / g; den = f.den / g })
IsReduced-from_gcd f g some common =
    let some_g : 0 < g = pos_of_dvd_of_pos common.1 some in
    let over : g * (f.num / g) ≡ f.num = mul-div_cancel' g common.0 in
    let under : g * (f.den / g) ≡ f.den = mul-div_cancel' g common.1 in
    let scaled = subst (λ n. IsGcd n (g * (f.den / g)) g) (sym over) (subst (λ n. IsGcd f.num n g) (sym under) common) in
    record { denominator = pos_of_dvd_of_pos (factor_divides g (f.den / g) f.den under) some; lowest = coprime_from_gcd (f.num / g) (f.den / g) g some_g scaled }

divided : (n d n' d' g : ℕ) → g * n' ≡ n → g * d' ≡ d → n' * d ≡ n * d'
divided n d n' d' g over under =
    let regroup : n' * (g * d') ≡ g * n' * d' = omega arith in
    ap (λ k. n' * k) (sym under) ∙ regroup ∙ ap (λ k. k * d') over

pub SameNumber-from_gcd : (f : Fraction) (g : ℕ) → IsGcd f.num f.den g → SameNumber (record { num = f.num / g; den = f.den / g }) f
SameNumber-from_gcd f g common = divided f.num f.den (f.num / g) (f.den / g) g (mul-div_cancel' g common.0) (mul-div_cancel' g common.1)

-- where a number has a fraction that fits, its lowest terms fit
FitsU64-lowest : (f h g : Fraction) → IsLowestTermsOf f g → IsFracOf h g → FitsU64 f
FitsU64-lowest f h g low is =
    let turned : SameNumber g h = sym is.same in
    let one = same_from_SameNumber f h low.reduced is.frac.reduced (SameNumber-trans f g h low.denominator low.same turned) in
    subst FitsU64 (sym one) is.frac.fits

-- a numerator past 128 bits has no sum that fits
numerator_below : (f g : Fraction) (c t : ℕ) → IsReduced f → IsReduced g → g.den < 2 ^ 64 → IsGcd f.den g.den c → t ≡ f.num * (g.den / c) + g.num * (f.den / c) → (h : Fraction) × IsFracOf h (sum_of f g) → t < 2 ^ 128
numerator_below f g c t low_f low_g small common sum found =
    let s = some_gcd (t % c) c in
    let k = IsKnuthSum-from_gcd f g c t s.0 low_f low_g common sum s.1 in
    let fits = FitsU64-lowest (knuth_sum f g c t s.0) found.0 (sum_of f g) k.lowest found.1 in
    let factor : s.0 < 2 ^ 64 = omega (arith, k.small) in
    let product : s.0 * (t / s.0) < 2 ^ 64 * 2 ^ 64 = mul-lt s.0 (t / s.0) (2 ^ 64) (2 ^ 64) factor fits.num in
    subst (λ n. n < 2 ^ 128) (sym k.whole) product

-- Both of these speak of fractions i and j that are the values f and g.
pub numerator_below_at : (i j f g : Fraction) (c t : ℕ) → i ≡ f → j ≡ g → IsReduced i → IsReduced j → j.den < 2 ^ 64 → IsGcd i.den j.den c → t ≡ i.num * (j.den / c) + j.num * (i.den / c) → (h : Fraction) × IsFracOf h (sum_of f g) → t < 2 ^ 128
numerator_below_at i j f g c t first second low_i low_j small common sum found =
    let found_j : (h : Fraction) × IsFracOf h (sum_of f j) = subst (λ y. (h : Fraction) × IsFracOf h (sum_of f y)) (sym second) found in
    let found_i : (h : Fraction) × IsFracOf h (sum_of i j) = subst (λ x. (h : Fraction) × IsFracOf h (sum_of x j)) (sym first) found_j in
    numerator_below i j c t low_i low_j small common sum found_i

pub lowest_sum_at : (i j f g : Fraction) (c t s n d : ℕ) → i ≡ f → j ≡ g → IsReduced i → IsReduced j → IsGcd i.den j.den c → t ≡ i.num * (j.den / c) + j.num * (i.den / c) → IsGcd (t % c) c s → n ≡ t / s → d ≡ i.den / c * (j.den / s) → IsLowestTermsOf (record { num = n; den = d }) (sum_of f g)
lowest_sum_at i j f g c t s n d first second low_i low_j common sum rest num den =
    let k = IsKnuthSum-from_gcd i j c t s low_i low_j common sum rest in
    let r : Fraction = record { num = n; den = d } in
    let made : IsLowestTermsOf r (sum_of i j) = subst (λ x. IsLowestTermsOf x (sum_of i j)) (same_fraction (knuth_sum i j c t s) r (sym num) (sym den)) k.lowest in
    subst (λ x. IsLowestTermsOf r (sum_of x g)) first (subst (λ y. IsLowestTermsOf r (sum_of i y)) second made)

pub sum_by : (a b c d p q r s : ℕ) → a ≡ p → b ≡ q → c ≡ r → d ≡ s → a * b + c * d ≡ p * q + r * s
sum_by a b c d p q r s ea eb ec ed = cc

pub product_by : (a b p q : ℕ) → a ≡ p → b ≡ q → a * b ≡ p * q
product_by a b p q ea eb = cc

-- an answer that is r where r fits, for a number whose lowest terms are r
pub value_where_fits : (o : Option Fraction) (r g : Fraction) → IsLowestTermsOf r g → IfSome o (λ f. f ≡ r) → IsSome o ↔ FitsU64 r → IfSome o (λ f. IsFracOf f g)
value_where_fits None r g low value fits = tt
value_where_fits (Some f) r g low value fits =
    record { frac = record { reduced = subst IsReduced (sym value) low.reduced; fits = subst FitsU64 (sym value) (fits.0 refl) }; same = subst (λ x. SameNumber x g) (sym value) low.same }

pub answer_where_fits : (o : Option Fraction) (r g : Fraction) → IsLowestTermsOf r g → IsSome o ↔ FitsU64 r → IsSome o ↔ ((h : Fraction) × IsFracOf h g)
answer_where_fits o r g low fits =
    (λ some. (r, record { frac = record { reduced = low.reduced; fits = fits.0 some }; same = low.same }), λ found. fits.1 (FitsU64-lowest r found.0 g low found.1))
