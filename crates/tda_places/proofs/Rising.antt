-- Lists of rising numbers: the units of a level, and the classes of a query.
use Rattle.std.proofs.Common.{◌≡◌, ◌≢◌, ℕ, ◌+◌, ◌<◌, ◌≤◌, List, length, get_or, Result, Ok, Err, filter, refl, sym, ap, ◌∙◌, inl, inr, arith, MatchResult, Contains}
use Rattle.std.proofs.lemmas.Bool.{cases_lt}
use Rattle.std.proofs.lemmas.List.FromFn.{length-range_with_len, get_or-range_with_len}
use Rattle.std.proofs.lemmas.List.Kept.{AllPairs-filter}
use Rattle.std.proofs.lemmas.List.Sorted.{searched}
use Rattle.std.specs.List.{AllPairs, range_with_len}
use Rattle.std.specs.List.Sorted.{IsBinarySearchResult}
use Rattle.std.specs.Ordering.{nat_cmp}
use Rattle.tda_model.specs.Schema.{Query, Schema}
use Rattle.tda_model.specs.Cells.{all_cells, cell_count, is_listed, is_possible, possible_cells}
use Rattle.tda_model.specs.Groups.{classes_of, is_class, scope_cells}
use Rattle.tda_model.specs.Spine.{Spine, is_at, unit_numbers, units_at}

abbrev pub Rises : List ℕ → Type 0
Rises xs = AllPairs (λ x y. x < y) xs

range_rises : (n : ℕ) → Rises (range_with_len 0 n)
range_rises n i j d less below =
    let len = length-range_with_len 0 n in
    let at_i : get_or (range_with_len 0 n) i d ≡ 0 + i = get_or-range_with_len 0 n i d (omega arith) in
    let at_j : get_or (range_with_len 0 n) j d ≡ 0 + j = get_or-range_with_len 0 n j d (omega arith) in
    omega arith

pub units_rise : (sp : Spine) (level : ℕ) → Rises (units_at sp level)
units_rise sp level = AllPairs-filter (λ x y. x < y) (is_at sp level) (unit_numbers sp) (range_rises (length sp.units))

pub classes_rise : (s : Schema) (q : Query) → Rises (classes_of s q)
classes_rise s q =
    AllPairs-filter (λ x y. x < y) (is_class s q) (scope_cells s q)
    (AllPairs-filter (λ x y. x < y) (is_listed s q.only) (possible_cells s)
    (AllPairs-filter (λ x y. x < y) (is_possible s) (all_cells s) (range_rises (cell_count s))))

module _ (xs : List ℕ) (rise : Rises xs) where
  -- each number stands once
  pub once : (i j : ℕ) → i < length xs → j < length xs → get_or xs i 0 ≡ get_or xs j 0 → i ≡ j
  once i j in_i in_j same = elim (cases_lt i j) [
    | inl less ↦ let rises = rise i j 0 less in_j in absurd (omega arith)
    | inr not_less ↦ elim (cases_lt j i) [
      | inl more ↦ let rises = rise j i 0 more in_i in absurd (omega arith)
      | inr not_more ↦ omega arith
    ]
  ]

  ordered : (i j : ℕ) → i ≤ j → j < length xs → get_or xs i 0 ≤ get_or xs j 0
  ordered i j within below = elim (cases_lt i j) [
    | inl less ↦ let rises = rise i j 0 less below in omega arith
    | inr not_less ↦ let same : i ≡ j = omega arith in let e = ap (λ k. get_or xs k 0) same in omega arith
  ]

  -- a search for one of them, which stands at k
  module _ (x k : ℕ) (below : k < length xs) (there : get_or xs k 0 ≡ x) (r : Result ℕ ℕ) (is : IsBinarySearchResult (λ y. nat_cmp y x) xs r) where
    by : (q : Result ℕ ℕ) → MatchResult q (λ i. (i < length xs) × (get_or xs i 0 ≡ x)) (λ i. (i ≤ length xs) × ((m : ℕ) → m < i → get_or xs m 0 < x) × ((m : ℕ) → i ≤ m → m < length xs → x < get_or xs m 0)) → q ≡ Ok k
    by (Ok i) m = ap Ok (once i k m.0 below (m.1 ∙ sym there))
    by (Err i) m = absurd (elim (cases_lt k i) [
      | inl less ↦ let low = m.1 k less in omega arith
      | inr more ↦ let high = m.2 k more below in omega arith
    ])

    -- finds it
    pub finds : r ≡ Ok k
    finds = by r (searched xs x r is ordered)
