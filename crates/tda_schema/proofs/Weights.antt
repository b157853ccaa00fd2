-- Weights, and the sum of the shares as so many common parts.
use Rattle.std.proofs.Common.{ℕ, ◌≡◌, ◌≤◌, ◌<◌, ◌+◌, ◌*◌, ◌/◌, ◌^◌, cond, List, [], ◌∷◌, length, take, Some, None, arith, refl, sym, ap, subst, ◌∙◌, add_assoc, add-zero, zero-add}
use Rattle.std.specs.Int.{◌∣◌}
use Rattle.std.specs.List.{All, flat_map, sum_by}
use Rattle.std.proofs.Math.Nat.{div-mul_cancel, dvd-mul_left_of_dvd, le_of_mul-le-mul_right, mul-le-mul_right, mul-pos}
use Rattle.std.proofs.lemmas.Bool.{le-leb, lt-leb}
use Rattle.std.proofs.lemmas.List.Concat.{get_or-flat_map}
use Rattle.std.proofs.lemmas.List.Folds.{length-flat_map-take}
use Rattle.std.proofs.lemmas.List.Sums.{sum_by-cons}
use Rattle.tda_frac.specs.Fraction as frac
use Rattle.tda_frac.specs.Fraction.{IsProduct, SameNumber, IsAtMost, IsFracOf, sum_of}
use Rattle.tda_frac.proofs.Fractions.{SameNumber-trans}
use Rattle.tda_model.specs.Schema.{Fraction, Query, Level}
use Rattle.tda_model.specs.Deviation.{weight_of}
use Rattle.tda_schema.specs.Lowest.{lowest}
use Rattle.tda_schema.specs.Stated.{fraction_of}
use Rattle.tda_schema.specs.Shares.{queries_in, QueriesDivide, frac_of, sum_after, is_at_most}
use Rattle.tda_schema.proofs.LowestTerms.{lowest-is, SameNumber-lowest}
use Rattle.tda_schema.proofs.Commons.{HaveDenominators, All-tail}

-- a share of at most 16 is at most 16 times so many parts
pub product_bound : (f : frac.Fraction) (l w : ℕ) → 1 ≤ f.den → f.num ≤ 16 * f.den → IsProduct f l w → w ≤ 16 * l
product_bound f l w some most product =
    let scaled : f.num * l ≤ 16 * f.den * l = mul-le-mul_right l most in
    let turned : 16 * f.den * l ≡ 16 * l * f.den = omega arith in
    le_of_mul-le-mul_right (omega (arith, product, scaled, turned)) some

-- parts that a denominator divides are a whole number of it
pub product_found : (f : frac.Fraction) (l : ℕ) → 1 ≤ f.den → f.num ≤ 16 * f.den → f.den ∣ l → l ≤ 2 ^ 20 → (w : ℕ) × IsProduct f l w × (w < 2 ^ 64)
product_found f l some most divides small =
    let w = f.num * l / f.den in
    let product : w * f.den ≡ f.num * l = div-mul_cancel f.den (dvd-mul_left_of_dvd f.den divides f.num) in
    let bound = product_bound f l w some most product in
    (w, product, omega arith)

-- what holds of the queries of all levels, holds of each level's
pub All-by_level : (P : Query → Type 0) (levels : List Level) → All P (queries_in levels) → All (λ l. All P l.queries) levels
All-by_level P levels all i l below j q inside =
    let queries : Level → List Query = λ x. x.queries in
    let at = length (flat_map queries (take i levels)) + j in
    let room = length-flat_map-take queries levels i l below in
    subst P (get_or-flat_map queries levels i j l q below inside) (all at q (omega arith))

weight-parts : (m : ℕ) (q : Query) → q.share.den ∣ m → weight_of m q * q.share.den ≡ q.share.num * m
weight-parts m q divides = div-mul_cancel q.share.den (dvd-mul_left_of_dvd q.share.den divides q.share.num)

added_parts : (a b c d m v w : ℕ) → a * m ≡ v * b → w * d ≡ c * m → (a * d + c * b) * m ≡ (v + w) * (b * d)
added_parts a b c d m v w first second =
    let apart : (a * d + c * b) * m ≡ a * m * d + c * m * b = omega arith in
    let joined : v * b * d + w * d * b ≡ (v + w) * (b * d) = omega arith in
    apart ∙ ap (λ n. n * d + c * m * b) first ∙ ap (λ n. v * b * d + n * b) (sym second) ∙ joined

-- the fraction is v parts of m
abbrev IsParts : frac.Fraction → ℕ → ℕ → Type 0
IsParts f v m = SameNumber f (record { num = v; den = m })

sum_after-parts : (m : ℕ) (f : frac.Fraction) (qs : List Query) (v : ℕ) → QueriesDivide m qs → IsParts f v m → IsParts (sum_after f qs) (v + sum_by (weight_of m) qs) m
sum_after-parts m f [] v divide is = rw (add-zero v) is
sum_after-parts m f (q ∷ qs) v divide is =
    let g = frac_of q.share in
    let w = weight_of m q in
    let here : IsParts (sum_of f g) (v + w) m = added_parts f.num f.den g.num g.den m v w is (weight-parts m q (divide 0 q (omega arith))) in
    let rest = sum_after-parts m (sum_of f g) qs (v + w) (All-tail (λ x. x.share.den ∣ m) q qs divide) here in
    let total : v + w + sum_by (weight_of m) qs ≡ v + sum_by (weight_of m) (q ∷ qs) = add_assoc v w (sum_by (weight_of m) qs) ∙ ap (λ n. v + n) (sym (sum_by-cons (weight_of m) q qs)) in
    subst (λ n. IsParts (sum_after (sum_of f g) qs) n m) total rest

sum_after-den : (f : frac.Fraction) (qs : List Query) → 1 ≤ f.den → HaveDenominators qs → 1 ≤ (sum_after f qs).den
sum_after-den f [] some dens = some
sum_after-den f (q ∷ qs) some dens = sum_after-den (sum_of f (frac_of q.share)) qs (mul-pos some (dens 0 q (omega arith))) (All-tail (λ x. 1 ≤ x.share.den) q qs dens)

-- so many parts in lowest terms are the exact sum in lowest terms
pub spent_is : (m : ℕ) (qs : List Query) (f : frac.Fraction) → 1 ≤ m → HaveDenominators qs → QueriesDivide m qs → IsFracOf f (record { num = sum_by (weight_of m) qs; den = m })
    → f ≡ lowest (sum_after (record { num = 0; den = 1 }) qs)
spent_is m qs f some dens divide is =
    let nothing : frac.Fraction = record { num = 0; den = 1 } in
    let parts : frac.Fraction = record { num = sum_by (weight_of m) qs; den = m } in
    let none : IsParts nothing 0 m = omega arith in
    let sum : SameNumber (sum_after nothing qs) parts = rw (zero-add (sum_by (weight_of m) qs)) at (sum_after-parts m nothing qs 0 divide none) in
    let back : SameNumber parts (sum_after nothing qs) = sym sum in
    lowest-is (sum_after nothing qs) f (sum_after-den nothing qs (omega arith) dens) is.frac.reduced (SameNumber-trans f parts (sum_after nothing qs) some is.same back)

-- the exact sum in lowest terms is so many parts
pub lowest_parts : (m : ℕ) (qs : List Query) → HaveDenominators qs → QueriesDivide m qs → SameNumber (lowest (sum_after (record { num = 0; den = 1 }) qs)) (record { num = sum_by (weight_of m) qs; den = m })
lowest_parts m qs dens divide =
    let nothing : frac.Fraction = record { num = 0; den = 1 } in
    let parts : frac.Fraction = record { num = sum_by (weight_of m) qs; den = m } in
    let none : IsParts nothing 0 m = omega arith in
    let sum : SameNumber (sum_after nothing qs) parts = rw (zero-add (sum_by (weight_of m) qs)) at (sum_after-parts m nothing qs 0 divide none) in
    SameNumber-trans (lowest (sum_after nothing qs)) (sum_after nothing qs) parts (sum_after-den nothing qs (omega arith) dens) (SameNumber-lowest (sum_after nothing qs)) sum

module _ (f t : frac.Fraction) (sum total : Fraction) (first : fraction_of f ≡ sum) (second : fraction_of t ≡ total) where
  pub within : IsAtMost f t → Some (fraction_of f) ≡ cond (is_at_most sum total) (Some sum) None
  within h = rw (← first, ← second, le-leb _ _ h) refl

  pub above : (IsAtMost f t → ⊥) → None ≡ cond (is_at_most sum total) (Some sum) None
  above h =
      let over : t.num * f.den < f.num * t.den = omega arith in
      rw (← first, ← second, lt-leb _ _ over) refl
