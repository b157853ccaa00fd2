-- Ascending lists as sets: one that has all numbers of another is at least as long, and the same where it isn't longer.
use Rattle.std.proofs.Common.{◌≡◌, ℕ, suc, ◌+◌, ◌<◌, ◌≤◌, Bool, List, [], ◌∷◌, length, get_or, filter, Contains, refl, arith, inl, inr}
use Rattle.std.specs.List.{range_with_len, AllPairs}
use Rattle.std.specs.List.Sorted.{IsStrictlyIncreasing}
use Rattle.std.proofs.lemmas.List.Elements.{All-contains, All-from_recursion, recursion_from_All}
use Rattle.std.proofs.lemmas.List.FromFn.{length-range_with_len, get_or-range_with_len}
use Rattle.std.proofs.lemmas.List.Kept.{AllPairs-from_increasing, IsStrictlyIncreasing-filter}
use Rattle.tda_model.proofs.Sums.{Ascends}
use Rattle.tda_sets.proofs.Members.{Contains-here, Contains-later, Contains-cases}

ascends_from_pairs : (xs : List ℕ) → AllPairs (λ x y. x < y) xs → Ascends xs
ascends_from_pairs [] pairs = tt
ascends_from_pairs (x ∷ xs) pairs = (
  recursion_from_All (λ y. x < y) xs (λ k d below. pairs 0 (suc k) d (omega arith) (omega arith)),
  ascends_from_pairs xs (λ i j d low high. pairs (suc i) (suc j) d (omega arith) (omega arith)),
)

pub ascends : (xs : List ℕ) → IsStrictlyIncreasing xs → Ascends xs
ascends xs rise = ascends_from_pairs xs (AllPairs-from_increasing xs rise)

range_rises : (n : ℕ) → IsStrictlyIncreasing (range_with_len 0 n)
range_rises n k below =
    let size : length (range_with_len 0 n) ≡ n = length-range_with_len 0 n in
    let here : get_or (range_with_len 0 n) k 0 ≡ 0 + k = get_or-range_with_len 0 n k 0 (omega arith) in
    let there : get_or (range_with_len 0 n) (k + 1) 0 ≡ 0 + (k + 1) = get_or-range_with_len 0 n (k + 1) 0 (omega arith) in
    omega arith

pub filter_rises : (p : ℕ → Bool) (n : ℕ) → IsStrictlyIncreasing (filter p (range_with_len 0 n))
filter_rises p n = IsStrictlyIncreasing-filter p (range_with_len 0 n) (range_rises n)

above_head : (x : ℕ) (xs : List ℕ) (z : ℕ) → Ascends (x ∷ xs) → Contains xs z → x < z
above_head x xs z up found = All-contains (λ y. x < y) xs z (All-from_recursion (λ y. x < y) xs up.0) found

-- the first number is the least
pub first_is_least : (xs : List ℕ) (z : ℕ) → Ascends xs → Contains xs z → get_or xs 0 0 ≤ z
first_is_least [] z up found = absurd (omega (arith, found.1))
first_is_least (x ∷ xs) z up found =
    elim (Contains-cases x xs z found) [
      | inl here ↦ omega arith
      | inr later ↦ let above = above_head x xs z up later in omega arith
    ]

pub record FitsIn (xs ys : List ℕ) : Type 0 where
  pub size : length xs ≤ length ys
  pub same : length ys ≤ length xs → xs ≡ ys

pub fits_in : (ys xs : List ℕ) → Ascends ys → Ascends xs → ((z : ℕ) → Contains xs z → Contains ys z) → FitsIn xs ys
fits_in [] [] high low among = record { size = omega arith; same = λ few. refl }
fits_in [] (x ∷ xs) high low among = absurd (omega (arith, (among x (Contains-here x xs)).1))
fits_in (y ∷ ys) [] high low among = record { size = omega arith; same = λ few. absurd (omega arith) }
fits_in (y ∷ ys) (x ∷ xs) high low among =
    elim (Contains-cases y ys x (among x (Contains-here x xs))) [
      | inl here ↦
          let rest = fits_in ys xs high.1 low.1 (λ z found. elim (Contains-cases y ys z (among z (Contains-later x xs z found))) [
            | inl again ↦ let above = above_head x xs z low found in absurd (omega arith)
            | inr later ↦ later
          ]) in
          record { size = omega (arith, rest.size); same = λ few. let tail : xs ≡ ys = rest.same (omega arith) in cc (here, tail) }
      | inr there ↦
          let less = above_head y ys x high there in
          let rest = fits_in ys (x ∷ xs) high.1 low (λ z found. elim (Contains-cases y ys z (among z found)) [
            | inl again ↦ let least = first_is_least (x ∷ xs) z low found in absurd (omega arith)
            | inr later ↦ later
          ]) in
          record { size = omega (arith, rest.size); same = λ few. let size = rest.size in absurd (omega arith) }
    ]
