-- A level has fewer groups than twice its possible cells: each group has a cell of its own, or two groups to which it is the next.
use Rattle.std.proofs.Common.{◌≡◌, ℕ, zero, suc, ◌+◌, ◌-◌, ◌<◌, ◌≤◌, ◌&&◌, cond, eqb, nat_lt, Bool, true, false, List, [], ◌∷◌, length, get_or, Contains, refl, sym, ap, ◌∙◌, subst, inl, inr, arith, ne_eqb, eq-eqb}
use Rattle.std.specs.List.{sum_by, range_with_len}
use Rattle.std.proofs.lemmas.Bool.{cases_eq, cases_lt, cases_Bool, eqb-true, ltb-true}
use Rattle.std.proofs.lemmas.List.Sums.{sum_by-cons}
use Rattle.tda_model.proofs.Sums.{Each, sum_swap, sum_add, sum_le, each_range}
use Rattle.tda_model.proofs.Shares.{sum_range_more}
use Rattle.tda_groups.specs.Order.{AreGroups, IsWithin, group_at, first_cell}
use Rattle.tda_groups.proofs.Ordering.{has_first, within_fits, within_tells}
use Rattle.tda_groups.proofs.Chained.{holds-Decides, later_within, set_at, same_group}
use Rattle.tda_groups.specs.Chains.{last_passing, has_cell, smallest_of, next_of}
use Rattle.tda_fitnet.proofs.Ranges.{below, below_same}
use Rattle.tda_fitnet.proofs.Nodes.{below_one}
use Rattle.tda_fitnet.proofs.GroupSums.{members, members_balance, members_sum, next_less, smallest_less}

-- ---- sums of those that pass
ones : (xs : List ℕ) → sum_by (λ j. suc zero) xs ≡ length xs
ones [] = refl
ones (x ∷ xs) = sum_by-cons (λ j. suc zero) x xs ∙ omega (arith, ones xs)

module _ (c : ℕ → Bool) (f : ℕ → ℕ) where
  abbrev one_of : ℕ → ℕ
  one_of k = cond (c k) 1 0

  abbrev value_of : ℕ → ℕ
  value_of k = cond (c k) (f k) 0

  none_by : (k : ℕ) (ks : List ℕ) (b : Bool) → c k ≡ b → cond b 1 0 + sum_by one_of ks ≤ 0 → (sum_by one_of ks ≤ 0 → sum_by value_of ks ≡ 0) → cond b (f k) 0 + sum_by value_of ks ≡ 0
  none_by k ks true e few rest = absurd (omega arith)
  none_by k ks false e few rest = omega (arith, rest (omega arith))

  none_pass : (ks : List ℕ) → sum_by one_of ks ≤ 0 → sum_by value_of ks ≡ 0
  none_pass [] few = refl
  none_pass (k ∷ ks) few = sum_by-cons value_of k ks ∙ none_by k ks (c k) refl (omega (arith, sum_by-cons one_of k ks)) (none_pass ks)

  one_by : (m k : ℕ) (ks : List ℕ) (b : Bool) → c k ≡ b → (c k ≡ true → f k ≤ m) → cond b 1 0 + sum_by one_of ks ≤ 1 → (sum_by one_of ks ≤ 1 → sum_by value_of ks ≤ m) → cond b (f k) 0 + sum_by value_of ks ≤ m
  one_by m k ks true e small few rest = let none = none_pass ks (omega arith) in let here = small e in omega arith
  one_by m k ks false e small few rest = omega (arith, rest (omega arith))

  -- where at most one passes
  one_passes : (m : ℕ) (ks : List ℕ) → Each (λ k. c k ≡ true → f k ≤ m) ks → sum_by one_of ks ≤ 1 → sum_by value_of ks ≤ m
  one_passes m [] h few = omega arith
  one_passes m (k ∷ ks) h few = let by = one_by m k ks (c k) refl h.0 (omega (arith, sum_by-cons one_of k ks)) (one_passes m ks h.1) in omega (arith, sum_by-cons value_of k ks)

eqb_turned : (a b : ℕ) → eqb a b ≡ eqb b a
eqb_turned a b = elim (cases_eq a b) [
  | inl e ↦ eq-eqb a b e ∙ sym (eq-eqb b a (sym e))
  | inr ne ↦ ne_eqb a b ne ∙ sym (ne_eqb b a (λ e. ne (sym e)))
]

-- the last that passes passes, where the first does
last_passes : (p : ℕ → Bool) (n : ℕ) → p 0 ≡ true → 1 ≤ n → p (last_passing p n) ≡ true
last_passes p zero here some = absurd (omega arith)
last_passes p (suc n) here some = elim (cases_Bool (p n)) [
  | inl passing ↦ ap p (ap (λ b. cond b n (last_passing p n)) passing) ∙ passing
  | inr other ↦ elim (cases_eq n 0) [
    | inl e ↦ let is : p n ≡ true = ap p e ∙ here in absurd cc
    | inr ne ↦ ap p (ap (λ b. cond b n (last_passing p n)) other) ∙ last_passes p n here (omega arith)
  ]
]

first_none : (n : ℕ) (f : ℕ → ℕ) → f 0 ≡ 0 → ((k : ℕ) → f k ≤ 1) → below (suc n) f ≤ n
first_none zero f none few = omega (arith, sum_range_more f 0)
first_none (suc n) f none few = omega (arith, sum_range_more f (suc n), few (suc n), first_none n f none few)

module _ (groups : List (List ℕ)) (h : AreGroups groups) (cells : List ℕ) (whole : group_at groups 0 ≡ cells) where
  abbrev G : ℕ
  G = length groups

  abbrev P : ℕ
  P = length cells

  abbrev small : ℕ → ℕ
  small r = smallest_of groups (get_or cells r 0)

  abbrev one : ℕ → ℕ
  one r = suc zero

  abbrev is_kid : ℕ → ℕ → Bool
  is_kid g k = nat_lt 0 k && eqb (next_of groups k) g

  abbrev own : ℕ → ℕ
  own g = below P (λ r. cond (eqb (small r) g) 1 0)

  abbrev kids : ℕ → ℕ
  kids g = below G (λ k. cond (is_kid g k) 1 0)

  size_is : (g : ℕ) → g < G → members groups h cells whole one g ≡ length (group_at groups g)
  size_is g low = members_sum groups h cells whole (λ j. suc zero) g low ∙ ones (group_at groups g)

  parts : (a b : Bool) → (a && b) ≡ true → (a ≡ true) × (b ≡ true)
  parts true b e = (refl, e)
  parts false b e = absurd cc

  -- a group is smaller than the next one
  kid_less : (g k : ℕ) → g < G → k < G → is_kid g k ≡ true → members groups h cells whole one k + 1 ≤ members groups h cells whole one g
  kid_less g k lg lk is =
      let both = parts (nat_lt 0 k) (eqb (next_of groups k) g) is in
      let some : 0 < k = ltb-true 0 k both.0 in
      let e : next_of groups k ≡ g = eqb-true (next_of groups k) g both.1 in
      let set : ℕ → List ℕ = λ g. group_at groups g in
      let first = first_cell (set k) in
      let own_first = has_first (set k) (set_at groups h k lk) in
      let in_whole : has_cell groups first 0 ≡ true = (holds-Decides (set 0) first).1 (within_tells (set k) (set 0) first (h.whole k [] lk) own_first) in
      let passes = last_passes (has_cell groups first) k in_whole (omega arith) in
      let in_next : Contains (set g) first = subst (λ n. Contains (set n) first) e ((holds-Decides (set (next_of groups k)) first).0 passes) in
      let less : g < k = subst (λ n. n < k) e (next_less groups h cells whole k (omega arith)) in
      let within : IsWithin (set k) (set g) = later_within groups h g k first less lk in_next own_first in
      let fits = within_fits (set k) (set g) (set_at groups h k lk) (set_at groups h g lg) within in
      let size = fits.size in
      elim (cases_eq (length (set g)) (length (set k))) [
        | inl same ↦ let is_same = same_group groups h k g lk lg (fits.same (omega arith)) in absurd (omega arith)
        | inr other ↦ omega (arith, size_is k lk, size_is g lg)
      ]

  -- a cell of its own, or two that are within it
  full : (g : ℕ) → g < G → 2 ≤ own g + own g + kids g
  full g lg = elim (cases_lt 0 (own g)) [
    | inl some ↦ omega arith
    | inr none ↦ elim (cases_lt 1 (kids g)) [
      | inl more ↦ omega arith
      | inr few ↦
          let n = members groups h cells whole one g in
          let set_some = (set_at groups h g lg).some in
          let size = size_is g lg in
          let balance = members_balance groups h cells whole one g lg in
          let small_sum = one_passes (is_kid g) (members groups h cells whole one) (n - 1) (range_with_len 0 G) (each_range (λ k. is_kid g k ≡ true → members groups h cells whole one k ≤ n - 1) 0 G (λ k a b is.
          let less = kid_less g k lg (omega arith) is in omega arith)) few in
          absurd (omega arith)
    ]
  ]

  all_own : below G own ≡ P
  all_own =
      sum_swap (λ g r. cond (eqb (small r) g) 1 0) (range_with_len 0 G) (range_with_len 0 P)
      ∙ below_same P (λ r. below G (λ g. cond (eqb (small r) g) 1 0)) one (λ r lr.
      below_same G (λ g. cond (eqb (small r) g) 1 0) (λ g. cond (eqb g (small r)) 1 0) (λ g lg. ap (λ b. cond b 1 0) (eqb_turned (small r) g))
      ∙ below_one G (small r) (λ g. suc zero) (smallest_less groups h cells whole (get_or cells r 0)))
      ∙ count P
    where
      count : (n : ℕ) → below n one ≡ n
      count zero = refl
      count (suc n) = omega (arith, sum_range_more one n, count n)

  all_kids : below G kids + 1 ≤ G
  all_kids =
      let some = h.some in
      let f : ℕ → ℕ = λ k. below G (λ g. cond (is_kid g k) 1 0) in
      let e : suc (G - 1) ≡ G = omega arith in
      let first : f 0 ≡ 0 = zero_sum G in
      let few : below (suc (G - 1)) f ≤ G - 1 = first_none (G - 1) f first one_next in
      let few2 : below G f ≤ G - 1 = subst (λ n. below n f ≤ G - 1) e few in
      omega (arith, sum_swap (λ g k. cond (is_kid g k) 1 0) (range_with_len 0 G) (range_with_len 0 G))
    where
      zero_sum : (n : ℕ) → below n (λ g. 0) ≡ 0
      zero_sum zero = refl
      zero_sum (suc n) = omega (arith, sum_range_more (λ g. 0) n, zero_sum n)

      at_most_one : (n m : ℕ) → below n (λ g. cond (eqb m g) 1 0) ≤ 1
      at_most_one n m = elim (cases_lt m n) [
        | inl l ↦ let e = below_same n (λ g. cond (eqb m g) 1 0) (λ g. cond (eqb g m) 1 0) (λ g lg. ap (λ b. cond b 1 0) (eqb_turned m g)) ∙ below_one n m (λ g. suc zero) l in omega arith
        | inr g ↦ let e = below_same n (λ g. cond (eqb m g) 1 0) (λ g. 0) (λ k lk. ap (λ b. cond b 1 0) (ne_eqb m k (λ e. omega arith))) ∙ zero_sum n in omega arith
      ]

      by : (b : Bool) (m : ℕ) → below G (λ g. cond (b && eqb m g) 1 0) ≤ 1
      by true m = at_most_one G m
      by false m = omega (arith, zero_sum G)

      one_next : (k : ℕ) → below G (λ g. cond (is_kid g k) 1 0) ≤ 1
      one_next k = by (nat_lt 0 k) (next_of groups k)

  -- fewer groups than twice the cells
  pub few_groups : length groups < length cells + length cells
  few_groups =
      let twice : below G (λ g. 2) ≤ below G (λ g. own g + own g + kids g) = sum_le (λ g. 2) (λ g. own g + own g + kids g) (range_with_len 0 G) (each_range (λ g. 2 ≤ own g + own g + kids g) 0 G (λ g a b. full g (omega arith))) in
      let two = sum_add (λ g. own g + own g) kids (range_with_len 0 G) in
      let owns = sum_add own own (range_with_len 0 G) in
      let all = twos G in
      omega (arith, all_own, all_kids)
    where
      twos : (n : ℕ) → below n (λ g. 2) ≡ n + n
      twos zero = refl
      twos (suc n) = omega (arith, sum_range_more (λ g. 2) n, twos n)
