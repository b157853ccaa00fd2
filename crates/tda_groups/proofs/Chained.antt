-- Groups in order that are nested: what comes earlier and meets a group holds it. So a cell's groups are a chain.
use Rattle.std.proofs.Common.{◌≡◌, ◌==◌, ℕ, zero, suc, ◌<◌, ◌≤◌, Bool, true, false, cond, List, [], length, Contains, Option, Some, None, MatchOption, refl, sym, ap, ◌∙◌, subst, arith, inl, inr}
use Rattle.std.specs.Bool.{Decides}
use Rattle.std.specs.List.{list_any}
use Rattle.std.proofs.lemmas.Bool.{cases_order, cases_lt, cases_eq, cases_Bool, false≢true}
use Rattle.std.proofs.lemmas.List.{get_or_default}
use Rattle.std.proofs.lemmas.Bool.Decides.{Decides-eqb, Decides-by_or}
use Rattle.std.proofs.lemmas.List.Elements.{All-contains, Contains-get_or, Decides-contains}
use Rattle.tda_model.specs.Groups.{AreNested}
use Rattle.tda_schema.specs.Parts.{holds}
use Rattle.tda_groups.specs.Order.{IsWithin, first_cell, ComesBefore, IsCellSet, group_at, AreGroups, IsSmallest, IsNext}
pub use Rattle.tda_groups.specs.Chains.{has_cell}
use Rattle.tda_groups.proofs.Ordering.{within_tells, has_first, least, within_fits, not_before_itself}

pub holds-Decides : (xs : List ℕ) (x : ℕ) → Decides (holds xs x) (Contains xs x)
holds-Decides xs x = Decides-contains xs x (holds xs x) (Decides-by_or (λ y. y == x) (λ y. y ≡ x) (list_any (λ y. y == x)) (λ y. Decides-eqb y x) refl (λ _ _. refl) xs)

-- the last number below a count that passes
abbrev pub last_below : (ℕ → Bool) → ℕ → Option ℕ
last_below p zero = None
last_below p (suc n) = cond (p n) (Some n) (last_below p n)

pub record IsLast (p : ℕ → Bool) (n i : ℕ) : Type 0 where
  pub below : i < n
  pub passes : p i ≡ true
  pub after : (k : ℕ) → i < k → k < n → p k ≡ false

pub last_tells : (p : ℕ → Bool) (n : ℕ) → MatchOption (last_below p n) ((k : ℕ) → k < n → p k ≡ false) (IsLast p n)
last_tells p zero = λ k below. absurd (omega arith)
last_tells p (suc n) =
    elim (cases_Bool (p n)) [
      | inl here ↦ rw here (record { below = omega arith; passes = here; after = λ k low high. absurd (omega arith) })
      | inr other ↦ rw other (more other (last_below p n) (last_tells p n))
    ]
  where
    more : p n ≡ false → (o : Option ℕ) → MatchOption o ((k : ℕ) → k < n → p k ≡ false) (IsLast p n) → MatchOption o ((k : ℕ) → k < suc n → p k ≡ false) (IsLast p (suc n))
    more other None none = λ k below. elim (cases_eq k n) [
      | inl e ↦ ap p e ∙ other
      | inr ne ↦ none k (omega arith)
    ]
    more other (Some i) last = record {
      below = omega (arith, last.below);
      passes = last.passes;
      after = λ k low high. elim (cases_eq k n) [
        | inl e ↦ ap p e ∙ other
        | inr ne ↦ last.after k low (omega arith)
      ];
    }

module _ (groups : List (List ℕ)) (h : AreGroups groups) where
  abbrev at : ℕ → List ℕ
  at g = group_at groups g

  pub set_at : (g : ℕ) → g < length groups → IsCellSet (at g)
  set_at g below = h.sets g [] below

  pub nested_at : (g k : ℕ) → g < length groups → k < length groups → AreNested (at g) (at k)
  nested_at g k low high = h.nested g [] low k [] high

  -- what comes earlier and meets a group holds it
  pub later_within : (i k z : ℕ) → i < k → k < length groups → Contains (at i) z → Contains (at k) z → IsWithin (at k) (at i)
  later_within i k z low high here there = by (nested_at k i high (omega arith))
    where
      no_more : IsWithin (at i) (at k) → ComesBefore (at i) (at k) → ⊥
      no_more within (inl less) = let first = least (at k) (first_cell (at i)) (set_at k high) (within_tells (at i) (at k) (first_cell (at i)) within (has_first (at i) (set_at i (omega arith)))) in omega arith
      no_more within (inr more) = let few = (within_fits (at i) (at k) (set_at i (omega arith)) (set_at k high) within).size in omega (arith, more.1)

      by : AreNested (at k) (at i) → IsWithin (at k) (at i)
      by (inl apart) = absurd (All-contains (λ x. Contains (at i) x → ⊥) (at k) z apart there here)
      by (inr (inl within)) = within
      by (inr (inr within)) = absurd (no_more within (h.ordered i k [] low high))

  -- the groups with a cell of the whole are a chain, in which the last is the smallest
  pub earlier_within : (i k z : ℕ) → i ≤ k → k < length groups → Contains (at i) z → Contains (at k) z → IsWithin (at k) (at i)
  earlier_within i k z low high here there =
      elim (cases_eq i k) [
        | inl e ↦ subst (λ j. IsWithin (at k) (at j)) (sym e) (itself (at k))
        | inr ne ↦ later_within i k z (omega arith) high here there
      ]
    where
      itself : (xs : List ℕ) → IsWithin xs xs
      itself xs n d below = Contains-get_or xs n d below

  pub same_group : (g k : ℕ) → g < length groups → k < length groups → at g ≡ at k → g ≡ k
  same_group g k low high same =
      elim (cases_order g k) [
        | inl e ↦ e
        | inr (inl less) ↦ absurd (not_before_itself (at k) (subst (λ xs. ComesBefore xs (at k)) same (h.ordered g k [] less high)))
        | inr (inr less) ↦ absurd (not_before_itself (at k) (subst (λ xs. ComesBefore (at k) xs) same (h.ordered k g [] less low)))
      ]

  pub distinct : (g k : ℕ) → g < length groups → k < length groups → IsWithin (at g) (at k) → IsWithin (at k) (at g) → g ≡ k
  distinct g k low high one other =
      let few = (within_fits (at k) (at g) (set_at k high) (set_at g low) other).size in
      same_group g k low high ((within_fits (at g) (at k) (set_at g low) (set_at k high) one).same few)

  abbrev has : ℕ → ℕ → Bool
  has z g = has_cell groups z g

  has_tells : (z g : ℕ) → has z g ≡ true → Contains (at g) z
  has_tells z g = (holds-Decides (at g) z).0

  has_from : (z g : ℕ) → Contains (at g) z → has z g ≡ true
  has_from z g = (holds-Decides (at g) z).1

  not_has : (z g : ℕ) → has z g ≡ false → Contains (at g) z → ⊥
  not_has z g fails found = false≢true (sym fails ∙ has_from z g found)

  pub smallest_is : (z : ℕ) → Contains (at 0) z → MatchOption (last_below (has z) (length groups)) ⊥ (IsSmallest groups z)
  smallest_is z whole = by (last_below (has z) (length groups)) (last_tells (has z) (length groups))
    where
      by : (o : Option ℕ) → MatchOption o ((k : ℕ) → k < length groups → has z k ≡ false) (IsLast (has z) (length groups)) → MatchOption o ⊥ (IsSmallest groups z)
      by None none = not_has z 0 (none 0 (omega (arith, h.some))) whole
      by (Some i) last = record {
        here = last.below;
        has = has_tells z i last.passes;
        least = λ k below found. elim (cases_lt i k) [
          | inl later ↦ absurd (not_has z k (last.after k later below) found)
          | inr before ↦ earlier_within k i z before last.below found (has_tells z i last.passes)
        ];
      }

  next_at : (z g : ℕ) → Contains (at g) z → g < length groups → MatchOption (last_below (has z) g) (g ≡ 0) (IsNext groups g)
  next_at z g here low = by (last_below (has z) g) (last_tells (has z) g)
    where
      by : (o : Option ℕ) → MatchOption o ((k : ℕ) → k < g → has z k ≡ false) (IsLast (has z) g) → MatchOption o (g ≡ 0) (IsNext groups g)
      by None none = elim (cases_eq g 0) [
        | inl e ↦ e
        | inr ne ↦ absurd (not_has z 0 (none 0 (omega arith)) (within_tells (at g) (at 0) z (h.whole g [] low) here))
      ]
      by (Some i) last = record {
        less = last.below;
        larger = later_within i g z last.below low (has_tells z i last.passes) here;
        least = λ k below within other.
            let found = within_tells (at g) (at k) z within here in
            elim (cases_lt k g) [
              | inl before ↦ elim (cases_lt i k) [
                | inl later ↦ absurd (not_has z k (last.after k later before) found)
                | inr earlier ↦ earlier_within k i z earlier (omega (arith, last.below)) found (has_tells z i last.passes)
              ]
              | inr after ↦ absurd (other (distinct k g below low (earlier_within g k z after below here found) within))
            ];
      }

  pub next_is : (g : ℕ) → g < length groups → MatchOption (last_below (has (first_cell (at g))) g) (g ≡ 0) (IsNext groups g)
  next_is g low = next_at (first_cell (at g)) g (has_first (at g) (set_at g low)) low

-- from the smallest group of a set's first cell up to the set
module _ (groups : List (List ℕ)) (h : AreGroups groups) (set : List ℕ) (some : 1 ≤ length set) (known : Contains groups set) where
  place : (t : ℕ) × (t < length groups) × (group_at groups t ≡ set)
  place = (known.0, known.1, get_or_default groups known.0 [] set known.1 ∙ known.2)

  pub known_set : IsCellSet set
  known_set = subst IsCellSet place.2 (set_at groups h place.0 place.1)

  pub first_in_whole : Contains (group_at groups 0) (first_cell set)
  first_in_whole = within_tells set (group_at groups 0) (first_cell set) (subst (λ xs. IsWithin xs (group_at groups 0)) place.2 (h.whole place.0 [] place.1)) (has_first set known_set)

  pub smallest_within : (g : ℕ) → IsSmallest groups (first_cell set) g → IsWithin (group_at groups g) set
  smallest_within g is = subst (IsWithin (group_at groups g)) place.2 (is.least place.0 place.1 (subst (λ xs. Contains xs (first_cell set)) (sym place.2) (has_first set known_set)))

  pub next_within : (g k : ℕ) → length (group_at groups g) < length set → IsWithin (group_at groups g) set → IsNext groups g k → IsWithin (group_at groups k) set
  next_within g k few within is =
      subst (IsWithin (group_at groups k)) place.2 (is.least place.0 place.1 (subst (IsWithin (group_at groups g)) (sym place.2) within)
      (λ e. let same : length (group_at groups g) ≡ length set = ap (λ j. length (group_at groups j)) (sym e) ∙ ap length place.2 in omega arith))

  pub not_whole : (g : ℕ) → length (group_at groups g) < length set → g ≡ 0 → ⊥
  not_whole g few e =
      let size = (within_fits set (group_at groups 0) known_set (set_at groups h 0 (omega (arith, h.some))) (subst (λ xs. IsWithin xs (group_at groups 0)) place.2 (h.whole place.0 [] place.1))).size in
      let same : length (group_at groups g) ≡ length (group_at groups 0) = ap (λ j. length (group_at groups j)) e in
      omega arith

  pub found : (g : ℕ) → g < length groups → length set ≤ length (group_at groups g) → IsWithin (group_at groups g) set → group_at groups g ≡ set
  found g below large within = (within_fits (group_at groups g) set (set_at groups h g below) known_set within).same large
