-- Lists that stand one after the other: which list an index falls into, and how far within it.
use Rattle.std.proofs.Common.{◌≡◌, ℕ, zero, suc, ◌+◌, ◌*◌, ◌-◌, ◌<◌, ◌≤◌, List, [], ◌∷◌, ◌++◌, length, get_or, take, map, sum_by, refl, sym, ap, ◌∙◌, inl, inr, arith, length-append}
use Rattle.std.specs.List.{flat_map, range_with_len}
use Rattle.std.proofs.lemmas.Bool.{cases_lt}
use Rattle.std.proofs.lemmas.List.{map-id}
use Rattle.std.proofs.lemmas.List.Concat.{get_or-flat_map, length-flat_map}
use Rattle.std.proofs.lemmas.List.Folds.{length-flat_map-take}
use Rattle.std.proofs.lemmas.List.FromFn.{length-range_with_len, get_or-range_with_len, take-map-range_with_len}
use Rattle.std.proofs.lemmas.List.Sums.{sum_by-cons}
use Rattle.tda_model.proofs.Shares.{sum_range_more}
use Rattle.tda_model.proofs.Sums.{sum_same, each_any}

-- the element at the index i of all lists is the j-th of the k-th list
pub record IsIn {X A : Type 0} (f : X → List A) (xs : List X) (d : X) (i k j : ℕ) : Type 0 where
  pub list : k < length xs
  pub within : j < length (f (get_or xs k d))
  pub index : i ≡ sum_by (λ x. length (f x)) (take k xs) + j

module _ {X A : Type 0} (f : X → List A) where
  later : (x : X) (xs : List X) (d : X) (i : ℕ) → length (f x) ≤ i → (k : ℕ) × (j : ℕ) × IsIn f xs d (i - length (f x)) k j → (k : ℕ) × (j : ℕ) × IsIn f (x ∷ xs) d i k j
  later x xs d i past (k, j, is) =
      (suc k, j, record { list = omega (arith, is.list); within = is.within; index = omega (arith, is.index, past, sum_by-cons (λ y. length (f y)) x (take k xs)) })

  -- each index falls into a list
  pub falls : (xs : List X) (d : X) (i : ℕ) → i < length (flat_map f xs) → (k : ℕ) × (j : ℕ) × IsIn f xs d i k j
  falls [] d i below = absurd (omega arith)
  falls (x ∷ xs) d i below = elim (cases_lt i (length (f x))) [
    | inl here ↦ (0, i, record { list = omega arith; within = here; index = omega arith })
    | inr past ↦ later x xs d i past (falls xs d (i - length (f x)) (omega (arith, length-append (f x) (flat_map f xs), below)))
  ]

  module _ (xs : List X) (d : X) (i k j : ℕ) (is : IsIn f xs d i k j) where
    index_is : i ≡ length (flat_map f (take k xs)) + j
    index_is = omega (arith, is.index, length-flat_map f (take k xs))

    -- and what stands there
    pub stands : (e : A) → get_or (flat_map f xs) i e ≡ get_or (f (get_or xs k d)) j e
    stands e = ap (λ n. get_or (flat_map f xs) n e) index_is ∙ get_or-flat_map f xs k j d e is.list is.within

    pub in_all : i < length (flat_map f xs)
    in_all = omega (arith, index_is, is.within, length-flat_map-take f xs k d is.list)

-- lists of one length
pub sum_even : {X : Type 0} (g : X → ℕ) (n : ℕ) (xs : List X) → ((x : X) → g x ≡ n) → sum_by g xs ≡ length xs * n
sum_even g n [] even = omega arith
sum_even g n (x ∷ xs) even = omega (arith, sum_by-cons g x xs, sum_even g n xs even, even x)

pub take_range : (k n : ℕ) → k ≤ n → take k (range_with_len 0 n) ≡ range_with_len 0 k
take_range k n within =
    ap (take k) (sym (map-id (range_with_len 0 n))) ∙ take-map-range_with_len (λ x. x) 0 n k within ∙ map-id (range_with_len 0 k)

pub range_at : (n k d : ℕ) → k < n → get_or (range_with_len 0 n) k d ≡ k
range_at n k d below = get_or-range_with_len 0 n k d below ∙ omega arith

-- one more number of a range
pub sum_more : (f : ℕ → ℕ) (n : ℕ) → sum_by f (range_with_len 0 (n + 1)) ≡ sum_by f (range_with_len 0 n) + f n
sum_more f n = let next : n + 1 ≡ suc n = omega arith in ap (λ m. sum_by f (range_with_len 0 m)) next ∙ sum_range_more f n

pub same_sums : {X : Type 0} (f g : X → ℕ) (xs : List X) → ((x : X) → f x ≡ g x) → sum_by f xs ≡ sum_by g xs
same_sums f g xs same = sum_same f g xs (each_any _ xs same)
