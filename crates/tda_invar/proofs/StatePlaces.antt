-- The states in order, and the total of each.
use Rattle.std.proofs.Common.{◌≡◌, ◌≢◌, ℕ, ◌+◌, ◌-◌, ◌<◌, ◌≤◌, ◌^◌, Bool, true, false, ◌==◌, cond, List, length, get_or, map, All, filter, position, Some, None, Result, Ok, Err, nat_lt, refl, sym, ap, subst, ◌∙◌, inl, inr, arith, ne_eqb, eq-eqb, MatchResult}
use Rattle.std.proofs.lemmas.Bool.{lt-ltb, eqb-true, cases_lt, cases_eq}
use Rattle.std.proofs.lemmas.List.{length-map, get_or-map}
use Rattle.std.proofs.lemmas.Grind.{same_number_lists}
use Rattle.std.proofs.lemmas.List.Elements.{All-filter, All-from_get_or, filter_passes, recursion_from_All}
use Rattle.std.proofs.lemmas.List.FromFn.{length-range_with_len, get_or-range_with_len}
use Rattle.std.proofs.lemmas.List.Kept.{AllPairs-filter}
use Rattle.std.proofs.lemmas.List.Sorted.{searched}
use Rattle.std.proofs.lemmas.List.Sums.{position_or_len_is}
use Rattle.std.specs.List.{AllPairs, position_or_len, range_with_len}
use Rattle.std.specs.Ordering.{nat_cmp}
use Rattle.std.specs.List.Sorted.{IsBinarySearchResult}
use Rattle.tda_model.specs.Spine.{Spine, IsUnit, level_of, is_at, units_at, unit_numbers}
use Rattle.tda_model.proofs.Sums.{filter_each, range_each}
use Rattle.tda_invar.specs.Totals.{state_place, total_of}
use Rattle.tda_invar.proofs.UnitLemmas.{units_within}

range_rises : (n : ℕ) → AllPairs (λ x y. x < y) (range_with_len 0 n)
range_rises n i j d lt l =
    let len = length-range_with_len 0 n in
    let at_i : get_or (range_with_len 0 n) i d ≡ 0 + i = get_or-range_with_len 0 n i d (omega arith) in
    let at_j : get_or (range_with_len 0 n) j d ≡ 0 + j = get_or-range_with_len 0 n j d (omega arith) in
    omega arith

module _ (sp : Spine) where
  pub states_rise : AllPairs (λ x y. x < y) (units_at sp 1)
  states_rise = AllPairs-filter (λ x y. x < y) (is_at sp 1) (unit_numbers sp) (range_rises (length sp.units))

  states_ordered : (i j : ℕ) → i ≤ j → j < length (units_at sp 1) → get_or (units_at sp 1) i 0 ≤ get_or (units_at sp 1) j 0
  states_ordered i j le l = elim (cases_lt i j) [
    | inl lt ↦ let h = states_rise i j 0 lt l in omega arith
    | inr ge ↦ let same : i ≡ j = omega arith in let e = ap (λ k. get_or (units_at sp 1) k 0) same in omega arith
  ]

  -- each of the states is one
  pub record IsState (u : ℕ) : Type 0 where
    pub here : IsUnit sp u
    pub at : level_of sp u ≡ 1

  pub states_are : All IsState (units_at sp 1)
  states_are k d l = record { here = units_within sp 1 k d l; at = eqb-true _ 1 (filter_passes (is_at sp 1) (unit_numbers sp) k d l) }

  -- which state stands at a place
  pub place_is : (i : ℕ) → i < length (units_at sp 1) → state_place sp (get_or (units_at sp 1) i 0) ≡ Some i
  place_is i l =
      let state = get_or (units_at sp 1) i 0 in
      let first : position_or_len (λ st. st == state) (units_at sp 1) ≡ i =
      position_or_len_is (λ st. st == state) (units_at sp 1) i 0 (omega arith)
      (λ k lt. let less = states_rise k i 0 lt l in ne_eqb _ _ (λ e. omega arith))
      (λ _. eq-eqb state state refl) in
      rw (first, lt-ltb i (length (units_at sp 1)) l) refl

  pub total_at : (totals : List ℕ) (i : ℕ) → i < length (units_at sp 1) → total_of sp totals (get_or (units_at sp 1) i 0) ≡ get_or totals i 0
  total_at totals i l = ap (λ o. elim o as (λ _. ℕ) [ Some k ↦ get_or totals k 0 | None ↦ 0 ]) (place_is i l)

  -- the totals are those of the states, in order
  pub totals_listed : (totals : List ℕ) → length totals ≡ length (units_at sp 1) → map (total_of sp totals) (units_at sp 1) ≡ totals
  totals_listed totals size =
      let long = length-map (units_at sp 1) (total_of sp totals) in
      same_number_lists (map (total_of sp totals) (units_at sp 1)) totals (omega arith)
      (λ k l. get_or-map (total_of sp totals) (units_at sp 1) k 0 0 (omega arith) ∙ total_at totals k (omega arith))

  -- a state is among them
  among : (u : ℕ) → IsState u → All (λ v. v ≢ u) (units_at sp 1) → ⊥
  among u h none =
      let here = h.here in
      let each = filter_each (λ v. v ≢ u) (is_at sp 1) (unit_numbers sp) (recursion_from_All (λ v. v ≢ u) (units_at sp 1) none) in
      range_each (λ v. is_at sp 1 v ≡ true → v ≢ u) 0 (length sp.units) each u (omega arith) (omega arith) (eq-eqb _ 1 h.at) refl

  -- what a search for a state finds
  pub found : (u : ℕ) → IsState u → (r : Result ℕ ℕ) → IsBinarySearchResult (λ y. nat_cmp y u) (units_at sp 1) r → (i : ℕ) × (r ≡ Ok i) × (i < length (units_at sp 1)) × (get_or (units_at sp 1) i 0 ≡ u)
  found u h r is = by r (searched (units_at sp 1) u r is states_ordered)
    where
      by : (q : Result ℕ ℕ) → MatchResult q (λ i. (i < length (units_at sp 1)) × (get_or (units_at sp 1) i 0 ≡ u)) (λ i. (i ≤ length (units_at sp 1)) × ((k : ℕ) → k < i → get_or (units_at sp 1) k 0 < u) × ((k : ℕ) → i ≤ k → k < length (units_at sp 1) → u < get_or (units_at sp 1) k 0))
          → (i : ℕ) × (q ≡ Ok i) × (i < length (units_at sp 1)) × (get_or (units_at sp 1) i 0 ≡ u)
      by (Ok i) m = (i, refl, m.0, m.1)
      by (Err i) m = absurd (among u h (All-from_get_or (λ v. v ≢ u) (units_at sp 1) 0 (λ k l e. elim (cases_lt k i) [
        | inl lt ↦ let less = m.1 k lt in omega arith
        | inr ge ↦ let more = m.2 k ge l in omega arith
      ])))

  -- what a search that found a place says
  module _ (u : ℕ) (h : IsState u) (r : Result ℕ ℕ) (is : IsBinarySearchResult (λ y. nat_cmp y u) (units_at sp 1) r) where
    pub found_never : (i : ℕ) → r ≡ Err i → ⊥
    found_never i e = let got = (found u h r is).1 in cc

    pub found_total : (totals : List ℕ) (i : ℕ) → r ≡ Ok i → get_or totals i 0 ≡ total_of sp totals u
    found_total totals i e = by (found u h r is)
      where
        by : (j : ℕ) × (r ≡ Ok j) × (j < length (units_at sp 1)) × (get_or (units_at sp 1) j 0 ≡ u) → get_or totals i 0 ≡ total_of sp totals u
        by (j, got, below, at) =
            let same : i ≡ j = cc in
            ap (λ k. get_or totals k 0) same ∙ sym (total_at totals j below) ∙ ap (total_of sp totals) at
