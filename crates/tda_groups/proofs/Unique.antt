-- The smallest group of a cell and the next larger group, as they are told, are those of the definitions.
use Rattle.std.proofs.Common.{◌≡◌, ℕ, zero, suc, ◌<◌, ◌≤◌, Bool, true, false, cond, List, length, Contains, sym, ap, ◌∙◌, subst, arith, inl, inr}
use Rattle.std.proofs.lemmas.Bool.{cases_eq, cases_Bool}
use Rattle.tda_groups.specs.Order.{AreGroups, IsSmallest, IsNext, IsWithin, group_at, first_cell}
use Rattle.tda_groups.proofs.Ordering.{within_tells, has_first}
use Rattle.tda_groups.proofs.Chained.{holds-Decides, later_within, earlier_within, set_at, distinct}
use Rattle.tda_groups.specs.Chains.{last_passing, has_cell, smallest_of, next_of}

-- where there is a number, the last that passes is one
pub last_less : (p : ℕ → Bool) (n : ℕ) → 1 ≤ n → last_passing p n < n
last_less p zero some = absurd (omega arith)
last_less p (suc n) some = here (p n) n (last_passing p n) (last_le p n)
  where
    last_le : (p : ℕ → Bool) (n : ℕ) → last_passing p n ≤ n
    last_le p zero = omega arith
    last_le p (suc n) = step (p n) n (last_passing p n) (last_le p n)
      where
        step : (b : Bool) (n m : ℕ) → m ≤ n → cond b n m ≤ suc n
        step true n m l = omega arith
        step false n m l = omega arith

    here : (b : Bool) (n m : ℕ) → m ≤ n → cond b n m < suc n
    here true n m l = omega arith
    here false n m l = omega arith

-- the last that passes passes where one does, and none after it does
record IsLast (p : ℕ → Bool) (n k : ℕ) : Type 0 where
  pub passes : p (last_passing p n) ≡ true
  pub later : k ≤ last_passing p n

last_is : (p : ℕ → Bool) (n k : ℕ) → k < n → p k ≡ true → IsLast p n k
last_is p zero k l here = absurd (omega arith)
last_is p (suc n) k l here = elim (cases_Bool (p n)) [
  | inl last ↦ record {
    passes = ap p (ap (λ b. cond b n (last_passing p n)) last) ∙ last;
    later = subst (λ m. k ≤ m) (sym (ap (λ b. cond b n (last_passing p n)) last)) (omega arith);
  }
  | inr other ↦ elim (cases_eq k n) [
    | inl e ↦ let is : p n ≡ true = subst (λ m. p m ≡ true) e here in absurd cc
    | inr ne ↦
        let h = last_is p n k (omega arith) here in
        let same : last_passing p n ≡ cond (p n) n (last_passing p n) = sym (ap (λ b. cond b n (last_passing p n)) other) in
        record { passes = ap p (sym same) ∙ h.passes; later = subst (λ m. k ≤ m) same h.later }
  ]
]

module _ (groups : List (List ℕ)) (h : AreGroups groups) where
  tells : (j g : ℕ) → has_cell groups j g ≡ true → Contains (group_at groups g) j
  tells j g = (holds-Decides (group_at groups g) j).0

  from : (j g : ℕ) → Contains (group_at groups g) j → has_cell groups j g ≡ true
  from j g = (holds-Decides (group_at groups g) j).1

  pub smallest_is_of : (cell g : ℕ) → IsSmallest groups cell g → g ≡ smallest_of groups cell
  smallest_is_of cell g is =
      let m = smallest_of groups cell in
      let last = last_is (has_cell groups cell) (length groups) g is.here (from cell g is.has) in
      let low : m < length groups = last_less (has_cell groups cell) (length groups) h.some in
      let there = tells cell m last.passes in
      distinct groups h g m is.here low (is.least m low there) (earlier_within groups h g m cell last.later low is.has there)

  pub next_is_of : (g k : ℕ) → g < length groups → IsNext groups g k → k ≡ next_of groups g
  next_is_of g k low is =
      let first = first_cell (group_at groups g) in
      let m = next_of groups g in
      let own = has_first (group_at groups g) (set_at groups h g low) in
      let in_k = within_tells (group_at groups g) (group_at groups k) first is.larger own in
      let less = is.less in
      let last = last_is (has_cell groups first) g k is.less (from first k in_k) in
      let m_less : m < g = last_less (has_cell groups first) g (omega arith) in
      let there = tells first m last.passes in
      let around : IsWithin (group_at groups g) (group_at groups m) = later_within groups h m g first m_less low there own in
      distinct groups h k m (omega arith) (omega arith) (is.least m (omega arith) around (λ e. omega arith)) (earlier_within groups h k m first last.later (omega arith) in_k there)
