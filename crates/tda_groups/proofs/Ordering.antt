-- The order of groups: nested sets with one first cell and as many cells are one set.
use Rattle.std.proofs.Common.{◌≡◌, ℕ, false, Ordering, ◌<◌, ◌≤◌, List, length, Contains, refl, sym, ap, ◌∙◌, subst, arith, inl, inr}
use Rattle.std.proofs.lemmas.List.Elements.{All-contains, Contains-get_or}
use Rattle.std.specs.Ordering.{nat_cmp, is_lt, ordering_then}
use Rattle.std.proofs.lemmas.Bool.{cases_lt, cases_order, lt-ltb, le-ltb, eq-eqb, true≢false}
use Rattle.std.proofs.lemmas.Map.Keys.{ge_from_not_lt}
use Rattle.tda_model.specs.Groups.{AreNested}
use Rattle.tda_groups.specs.Order.{IsWithin, first_cell, ComesBefore, ComesNoLater, IsCellSet}
use Rattle.tda_groups.proofs.Ascending.{ascends, first_is_least, FitsIn, fits_in}

pub within_tells : (xs ys : List ℕ) (z : ℕ) → IsWithin xs ys → Contains xs z → Contains ys z
within_tells xs ys z within found = All-contains (Contains ys) xs z within found

pub has_first : (xs : List ℕ) → IsCellSet xs → Contains xs (first_cell xs)
has_first xs set = Contains-get_or xs 0 0 (omega (arith, set.some))

pub least : (xs : List ℕ) (z : ℕ) → IsCellSet xs → Contains xs z → first_cell xs ≤ z
least xs z set found = first_is_least xs z (ascends xs set.ascending) found

pub within_fits : (xs ys : List ℕ) → IsCellSet xs → IsCellSet ys → IsWithin xs ys → FitsIn xs ys
within_fits xs ys one other within = fits_in ys xs (ascends ys other.ascending) (ascends xs one.ascending) (λ z found. within_tells xs ys z within found)

pub same_sets : (xs ys : List ℕ) → IsCellSet xs → IsCellSet ys → AreNested xs ys → first_cell xs ≡ first_cell ys → length xs ≡ length ys → xs ≡ ys
same_sets xs ys one other (inl apart) first size =
    absurd (All-contains (λ x. Contains ys x → ⊥) xs (first_cell xs) apart (has_first xs one) (subst (Contains ys) (sym first) (has_first ys other)))
same_sets xs ys one other (inr (inl within)) first size = (within_fits xs ys one other within).same (omega arith)
same_sets xs ys one other (inr (inr within)) first size = sym ((within_fits ys xs other one within).same (omega arith))

pub before_trans : (xs ys zs : List ℕ) → ComesBefore xs ys → ComesBefore ys zs → ComesBefore xs zs
before_trans xs ys zs (inl a) (inl b) = inl (omega arith)
before_trans xs ys zs (inl a) (inr b) = inl (omega (arith, b.0))
before_trans xs ys zs (inr a) (inl b) = inl (omega (arith, a.0))
before_trans xs ys zs (inr a) (inr b) = inr (a.0 ∙ b.0, omega (arith, a.1, b.1))

pub not_before_itself : (xs : List ℕ) → ComesBefore xs xs → ⊥
not_before_itself xs (inl a) = omega arith
not_before_itself xs (inr a) = omega (arith, a.1)

-- of two different nested sets one comes before
pub comes_before : (xs ys : List ℕ) → IsCellSet xs → IsCellSet ys → AreNested xs ys → ComesNoLater xs ys → (xs ≡ ys → ⊥) → ComesBefore xs ys
comes_before xs ys one other nested (inl less) differ = inl less
comes_before xs ys one other nested (inr (first, size)) differ =
    elim (cases_lt (length ys) (length xs)) [
      | inl larger ↦ inr (first, larger)
      | inr few ↦ absurd (differ (same_sets xs ys one other nested first (omega arith)))
    ]

-- ---- what a sort by first cells and then from the largest down tells

cmp_less : (a b : ℕ) → a < b → nat_cmp a b ≡ Ordering.Less
cmp_less a b less = rw (lt-ltb a b less) refl

cmp_equal : (a b : ℕ) → a ≡ b → nat_cmp a b ≡ Ordering.Equal
cmp_equal a b e = rw (le-ltb a b (omega arith), eq-eqb a b e) refl

pub no_later : (xs ys : List ℕ) → is_lt (ordering_then (nat_cmp (first_cell ys) (first_cell xs)) (nat_cmp (length xs) (length ys))) ≡ false → ComesNoLater xs ys
no_later xs ys h =
    let sizes = nat_cmp (length xs) (length ys) in
    elim (cases_order (first_cell ys) (first_cell xs)) [
      | inl e ↦ inr (sym e, ge_from_not_lt (length xs) (length ys) (ap (λ o. is_lt (ordering_then o sizes)) (sym (cmp_equal (first_cell ys) (first_cell xs) e)) ∙ h))
      | inr (inl less) ↦ absurd (true≢false (ap (λ o. is_lt (ordering_then o sizes)) (sym (cmp_less (first_cell ys) (first_cell xs) less)) ∙ h))
      | inr (inr more) ↦ inl more
    ]
