-- The flows of a tree of groups balance exactly where each group passes on the sum of its cells.
use Rattle.std.proofs.Common.{◌≡◌, ℕ, zero, suc, ◌+◌, ◌<◌, ◌≤◌, Bool, true, false, cond, ◌&&◌, eqb, nat_lt, List, [], length, get_or, filter, Contains, refl, sym, ap, ◌∙◌, subst, inl, inr, arith, lt-ltb}
use Rattle.std.specs.List.{sum_by, range_with_len}
use Rattle.std.proofs.lemmas.Bool.{cases_Bool, and_parts, eqb-true, ltb-true}
use Rattle.std.proofs.lemmas.Bool.Decides.{same_from_decides, Decides-like}
use Rattle.std.proofs.lemmas.List.Elements.{Contains-get_or}
use Rattle.tda_model.proofs.Sums.{sum_zero, sum_add, sum_swap, sum_filter, sum_by_index, Ascends, filter_ascends}
use Rattle.tda_sets.proofs.Members.{Contains-filter, filter_holds}
use Rattle.tda_groups.specs.Order.{AreGroups, IsCellSet, group_at, first_cell}
use Rattle.tda_groups.proofs.Ascending.{ascends, fits_in}
use Rattle.tda_groups.proofs.Ordering.{within_tells, has_first}
use Rattle.tda_groups.proofs.Chained.{holds-Decides, later_within, set_at}
use Rattle.tda_schema.specs.Parts.{holds}
use Rattle.tda_groups.specs.Chains.{last_passing, has_cell, smallest_of, next_of}
use Rattle.tda_fitnet.proofs.Ranges.{below, below_same}
use Rattle.tda_fitnet.proofs.Inner.{tick, linked}

last_same : (p q : ℕ → Bool) (n : ℕ) → ((i : ℕ) → i < n → p i ≡ q i) → last_passing p n ≡ last_passing q n
last_same p q zero h = refl
last_same p q (suc n) h = ap (λ b. cond b n (last_passing p n)) (h n (omega arith)) ∙ ap (λ m. cond (q n) n m) (last_same p q n (λ i l. h i (omega arith)))

pub last_less : (p : ℕ → Bool) (n : ℕ) → 1 ≤ n → last_passing p n < n
last_less p zero some = absurd (omega arith)
last_less p (suc n) some = here (p n) n (last_passing p n) (last_le p n)
  where
    last_le : (p : ℕ → Bool) (n : ℕ) → last_passing p n ≤ n
    last_le p zero = omega arith
    last_le p (suc n) = step (p n) n (last_passing p n) (last_le p n)
      where
        step : (b : Bool) (n m : ℕ) → m ≤ n → cond b n m ≤ suc n
        step true n m l = omega arith
        step false n m l = omega arith

    here : (b : Bool) (n m : ℕ) → m ≤ n → cond b n m < suc n
    here true n m l = omega arith
    here false n m l = omega arith

sum_cond : (b : Bool) (n : ℕ) (f : ℕ → ℕ) → below n (λ r. cond b (f r) 0) ≡ cond b (below n f) 0
sum_cond true n f = refl
sum_cond false n f = sum_zero (range_with_len 0 n)

-- a set within another is what the other has of it
pub kept_set : (xs ys : List ℕ) → Ascends xs → Ascends ys → ((z : ℕ) → Contains xs z → Contains ys z) → filter (holds xs) ys ≡ xs
kept_set xs ys low high within =
    let kept = filter (holds xs) ys in
    let up : Ascends kept = filter_ascends (holds xs) ys high in
    let there = fits_in xs kept low up (λ z found. (holds-Decides xs z).0 (filter_holds (holds xs) ys z found)) in
    let back = fits_in kept xs up low (λ z found. Contains-filter (holds xs) ys z (within z found) ((holds-Decides xs z).1 found)) in
    there.same back.size

module _ (groups : List (List ℕ)) (h : AreGroups groups) (cells : List ℕ) (whole : group_at groups 0 ≡ cells) where
  abbrev G : ℕ
  G = length groups

  abbrev P : ℕ
  P = length cells

  abbrev cell : ℕ → ℕ
  cell r = get_or cells r 0

  abbrev has : ℕ → ℕ → Bool
  has j g = has_cell groups j g

  tells : (j g : ℕ) → has j g ≡ true → Contains (group_at groups g) j
  tells j g = (holds-Decides (group_at groups g) j).0

  -- before a group with the cell, the groups with the cell are those with the group's first cell
  pub next_is_last : (j k : ℕ) → k < G → has j k ≡ true → next_of groups k ≡ last_passing (has j) k
  next_is_last j k low here =
      let first = first_cell (group_at groups k) in
      let found : Contains (group_at groups k) j = tells j k here in
      let first_found = has_first (group_at groups k) (set_at groups h k low) in
      last_same (has first) (has j) k (λ i l. same_from_decides (has first i) (has j i)
      (Decides-like (has first i)
      (λ there. within_tells (group_at groups k) (group_at groups i) j (later_within groups h i k first l low there first_found) found)
      (λ there. within_tells (group_at groups k) (group_at groups i) first (later_within groups h i k j l low there found) first_found)
      (holds-Decides (group_at groups i) first))
      (holds-Decides (group_at groups i) j))

  -- a cell counts in a group where it is the group's own, or counts in one of the groups to which the group is next
  one_cell : (y j g : ℕ) → Contains cells j → g < G
      → tick y (eqb (smallest_of groups j) g) + below G (λ k. cond (nat_lt 0 k && eqb (next_of groups k) g) (tick y (has j k)) 0) ≡ tick y (has j g)
  one_cell y j g found low =
      let some : 1 ≤ G = h.some in
      let link = linked y (has j) G g (ap (λ xs. holds xs j) whole ∙ (holds-Decides cells j).1 found) some in
      let same : below G (λ k. cond (nat_lt 0 k && eqb (next_of groups k) g) (tick y (has j k)) 0) ≡ below G (λ k. tick y (nat_lt 0 k && (has j k && eqb (last_passing (has j) k) g))) =
      below_same G _ (λ k. tick y (nat_lt 0 k && (has j k && eqb (last_passing (has j) k) g))) (λ k l. elim (cases_Bool (has j k)) [
        | inl passes ↦ ap (λ b. cond (nat_lt 0 k && eqb (next_of groups k) g) (tick y b) 0) passes
            ∙ ap (λ n. cond (nat_lt 0 k && eqb n g) y 0) (next_is_last j k l passes)
            ∙ sym (ap (λ b. tick y (nat_lt 0 k && (b && eqb (last_passing (has j) k) g))) passes)
        | inr misses ↦ ap (λ b. cond (nat_lt 0 k && eqb (next_of groups k) g) (tick y b) 0) misses ∙ none _
            ∙ sym (ap (λ b. tick y (nat_lt 0 k && (b && eqb (last_passing (has j) k) g))) misses ∙ none2 (nat_lt 0 k))
      ]) in
      let all : tick y (has j g && nat_lt g G) ≡ tick y (has j g) = within (has j g) (nat_lt g G) (lt-ltb g G low) in
      omega (arith, same, link, all)
    where
      none : (b : Bool) → cond b 0 0 ≡ zero
      none true = refl
      none false = refl

      none2 : (b : Bool) → tick y (b && false) ≡ zero
      none2 true = refl
      none2 false = refl

      within : (a b : Bool) → b ≡ true → tick y (a && b) ≡ tick y a
      within true b e = ap (tick y) e
      within false b e = refl

  -- the sum of what is given to a group's cells
  abbrev pub members : (ℕ → ℕ) → ℕ → ℕ
  members give g = below P (λ r. tick (give r) (has (cell r) g))

  abbrev pub comes : (ℕ → ℕ) → (ℕ → ℕ) → ℕ → ℕ
  comes give pass g = below P (λ r. cond (eqb (smallest_of groups (cell r)) g) (give r) 0) + below G (λ k. cond (nat_lt 0 k && eqb (next_of groups k) g) (pass k) 0)

  pub members_balance : (give : ℕ → ℕ) (g : ℕ) → g < G → comes give (members give) g ≡ members give g
  members_balance give g low =
      let c : ℕ → Bool = λ k. nat_lt 0 k && eqb (next_of groups k) g in
      let own : ℕ → ℕ = λ r. cond (eqb (smallest_of groups (cell r)) g) (give r) 0 in
      let inner : ℕ → ℕ = λ r. below G (λ k. cond (c k) (tick (give r) (has (cell r) k)) 0) in
      ap (λ n. below P own + n)
      (below_same G _ (λ k. below P (λ r. cond (c k) (tick (give r) (has (cell r) k)) 0)) (λ k l. sym (sum_cond (c k) P (λ r. tick (give r) (has (cell r) k))))
      ∙ sum_swap (λ k r. cond (c k) (tick (give r) (has (cell r) k)) 0) (range_with_len 0 G) (range_with_len 0 P))
      ∙ sym (sum_add own inner (range_with_len 0 P))
      ∙ below_same P (λ r. own r + inner r) (λ r. tick (give r) (has (cell r) g)) (λ r l. one_cell (give r) (cell r) g (Contains-get_or cells r 0 l) low)

  pub next_less : (g : ℕ) → 1 ≤ g → next_of groups g < g
  next_less g some = last_less (has_cell groups (first_cell (group_at groups g))) g some

  pub smallest_less : (j : ℕ) → smallest_of groups j < G
  smallest_less j = last_less (has j) G h.some

  determined : (give pass : ℕ → ℕ) → ((g : ℕ) → g < G → comes give pass g ≡ pass g)
      → (more g : ℕ) → g < G → G ≤ g + more → pass g ≡ members give g
  determined give pass b zero g l e = absurd (omega arith)
  determined give pass b (suc more) g l e =
      sym (b g l)
      ∙ ap (λ n. below P (λ r. cond (eqb (smallest_of groups (cell r)) g) (give r) 0) + n)
      (below_same G _ (λ k. cond (nat_lt 0 k && eqb (next_of groups k) g) (members give k) 0) (λ k lk. elim (cases_Bool (nat_lt 0 k && eqb (next_of groups k) g)) [
        | inl is ↦
            let parts = and_parts _ _ is in
            let some = ltb-true 0 k parts.0 in
            let same = eqb-true (next_of groups k) g parts.1 in
            let lt = next_less k (omega arith) in
            ap (λ n. cond (nat_lt 0 k && eqb (next_of groups k) g) n 0) (determined give pass b more k lk (omega arith))
        | inr other ↦ ap (λ t. cond t (pass k) 0) other ∙ sym (ap (λ t. cond t (members give k) 0) other)
      ]))
      ∙ members_balance give g l

  -- in a balanced tree each group passes on the sum of its cells
  pub balanced_is : (give pass : ℕ → ℕ) → ((g : ℕ) → g < G → comes give pass g ≡ pass g) → (g : ℕ) → g < G → pass g ≡ members give g
  balanced_is give pass b g l = determined give pass b G g l (omega arith)

  cells_set : IsCellSet cells
  cells_set = subst IsCellSet whole (set_at groups h 0 (omega (arith, h.some)))

  -- a group is what the whole has of it
  pub group_kept : (g : ℕ) → g < G → filter (holds (group_at groups g)) cells ≡ group_at groups g
  group_kept g low =
      let set = group_at groups g in
      kept_set set cells (ascends set (set_at groups h g low).ascending) (ascends cells cells_set.ascending)
      (λ z found. subst (λ xs. Contains xs z) whole (within_tells set (group_at groups 0) z (h.whole g [] low) found))

  -- which is the sum over its list of cells
  pub members_sum : (x : ℕ → ℕ) (g : ℕ) → g < G → members (λ r. x (cell r)) g ≡ sum_by x (group_at groups g)
  members_sum x g low =
      let set = group_at groups g in
      sym (sum_by_index (λ j. cond (holds set j) (x j) 0) cells 0) ∙ sym (sum_filter x (holds set) cells) ∙ ap (sum_by x) (group_kept g low)
