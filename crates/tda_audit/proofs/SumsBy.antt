-- Counts that are added up under numbers, cell by cell.
use Rattle.std.proofs.Common.{◌≡◌, ℕ, ◌+◌, ◌*◌, ◌<◌, ◌≤◌, ◌^◌, Bool, true, false, List, length, get_or, set, filter, sum_by, sym, ap, ◌∙◌, inl, inr, arith}
use Rattle.std.proofs.lemmas.Bool.{cases_eq}
use Rattle.std.proofs.lemmas.List.{get_or-set_same, get_or-set_other, length-set}
use Rattle.std.proofs.lemmas.List.Sums.{sum_by_push}
use Rattle.std.specs.List.{range_with_len}
use Rattle.tda_sets.proofs.Ranges.{filter_range_push, filter_range_skip}

-- test k j: the count of cell j belongs under k
module _ (test : ℕ → ℕ → Bool) (x : ℕ → ℕ) where
  -- what stands under k after so many cells
  abbrev pub part : ℕ → ℕ → ℕ
  part n k = sum_by x (filter (test k) (range_with_len 0 n))

  part_yes : (n k : ℕ) → test k n ≡ true → part (n + 1) k ≡ part n k + x n
  part_yes n k is = ap (sum_by x) (filter_range_push (test k) n is) ∙ sum_by_push x (filter (test k) (range_with_len 0 n)) n

  part_no : (n k : ℕ) → test k n ≡ false → part (n + 1) k ≡ part n k
  part_no n k isnt = ap (sum_by x) (filter_range_skip (test k) n isnt)

  -- the sums so far
  pub record AreSums (n : ℕ) (sums : List ℕ) : Type 0 where
    pub each : (k : ℕ) → k < length sums → get_or sums k 0 ≡ part n k
    pub small : (k : ℕ) → k < length sums → get_or sums k 0 ≤ n * 2 ^ 30

  pub sums_start : (sums : List ℕ) → ((k : ℕ) → k < length sums → get_or sums k 0 ≡ 0) → AreSums 0 sums
  sums_start sums zeros = record { each = zeros; small = λ k below. omega (arith, zeros k below) }

  pub sums_skip : (n : ℕ) (sums : List ℕ) → ((k : ℕ) → test k n ≡ false) → AreSums n sums → AreSums (n + 1) sums
  sums_skip n sums none h = record {
    each = λ k below. h.each k below ∙ sym (part_no n k (none k));
    small = λ k below. omega (arith, h.small k below);
  }

  module _ (n a : ℕ) (few : x n ≤ 2 ^ 30) (own : test a n ≡ true) (others : (k : ℕ) → (k ≡ a → ⊥) → test k n ≡ false) (sums : List ℕ) (inside : a < length sums) (h : AreSums n sums) where
    abbrev more : List ℕ
    more = set sums a (get_or sums a 0 + x n)

    at_own : get_or more a 0 ≡ get_or sums a 0 + x n
    at_own = get_or-set_same sums a (get_or sums a 0 + x n) 0 inside

    pub sums_more : AreSums (n + 1) (set sums a (get_or sums a 0 + x n))
    sums_more = record {
      each = λ k below. elim (cases_eq k a) [
        | inl e ↦ ap (λ m. get_or more m 0) e ∙ at_own ∙ ap (λ m. m + x n) (h.each a inside) ∙ sym (part_yes n a own) ∙ ap (part (n + 1)) (sym e)
        | inr other ↦
            let low : k < length sums = omega (arith, below, length-set sums a (get_or sums a 0 + x n)) in
            get_or-set_other sums a k (get_or sums a 0 + x n) 0 other ∙ h.each k low ∙ sym (part_no n k (others k other))
      ];
      small = λ k below. elim (cases_eq k a) [
        | inl e ↦ let is = ap (λ m. get_or more m 0) e ∙ at_own in let le = h.small a inside in omega (arith, is, le, few)
        | inr other ↦
            let low : k < length sums = omega (arith, below, length-set sums a (get_or sums a 0 + x n)) in
            let is = get_or-set_other sums a k (get_or sums a 0 + x n) 0 other in let le = h.small k low in omega (arith, is, le)
      ];
    }
