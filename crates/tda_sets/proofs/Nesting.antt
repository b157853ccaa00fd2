-- When the sets of two families are nested, by the numbers in which two sets meet.
use Rattle.std.proofs.Common.{◌≡◌, ◌==◌, ◌↔◌, ◌⊎◌, ℕ, ◌+◌, ◌<◌, ◌≤◌, Bool, true, false, cond, ◌&&◌, ◌||◌, List, length, get_or, map, filter, find, All, Contains, Option, Some, None, nat_eq, refl, sym, ap, ◌∙◌, subst, arith, inl, inr}
use Rattle.std.specs.List.{list_all, range_with_len}
use Rattle.std.specs.Option.{option_eq}
use Rattle.std.proofs.lemmas.Bool.{and_from, and_parts, or_cases, or_left, or_right, false≢true, cases_Bool}
use Rattle.std.proofs.lemmas.List.Elements.{All-contains}
use Rattle.std.proofs.lemmas.List.Sums.{AllPass-from_list_all, list_all-from_AllPass}
use Rattle.tda_model.specs.Groups.{AreNested}
use Rattle.tda_sets.specs.Family.{Names, IsFamily, name_at, is_in, set_of, firsts, sets_of, are_together}
use Rattle.tda_sets.specs.Nested.{AreAllNested, is_kept, meets_well}
use Rattle.tda_sets.proofs.Ranges.{find_Some, find_None}
use Rattle.tda_sets.proofs.Families.{same_name, name_is_same, is_in_below}
use Rattle.tda_sets.proofs.Members.{Contains-range, Contains-passing, passing_holds, passing_below, All-from_Contains, Contains-map, map_source}

module _ (names : Names) (r i : ℕ) where
  pub in_set : is_in names r i ≡ true → Contains (set_of names r) i
  in_set within = Contains-passing (is_in names r) (length names) i (is_in_below names r i within) within

  pub set_tells : Contains (set_of names r) i → is_in names r i ≡ true
  set_tells found = passing_holds (is_in names r) (length names) i found

-- the sets of a family are those of its least members
module _ (names : Names) where
  pub Contains-sets_of : (r : ℕ) → is_in names r r ≡ true → Contains (sets_of names) (set_of names r)
  Contains-sets_of r least = Contains-map (set_of names) (firsts names) r (Contains-passing (λ i. is_in names i i) (length names) r (is_in_below names r r least) least)

  pub set_source : (xs : List ℕ) → Contains (sets_of names) xs → (r : ℕ) × (is_in names r r ≡ true) × (set_of names r ≡ xs)
  set_source xs found =
      let s = map_source (set_of names) (firsts names) xs found in
      (s.0, passing_holds (λ i. is_in names i i) (length names) s.0 s.1, s.2)

-- a set that is kept is within one set of the other family
module _ (names other : Names) (r : ℕ) where
  pub kept_tells : is_kept names other r ≡ true → (j : ℕ) → is_in names r j ≡ true → name_at other r ≡ name_at other j
  kept_tells kept j within =
      same_name (name_at other r) (name_at other j)
      (All-contains (λ x. are_together other r x ≡ true) (set_of names r) j (AllPass-from_list_all (are_together other r) (set_of names r) kept) (in_set names r j within))

  pub kept_from : ((j : ℕ) → is_in names r j ≡ true → name_at other r ≡ name_at other j) → is_kept names other r ≡ true
  kept_from same =
      list_all-from_AllPass (are_together other r) (set_of names r)
      (All-from_Contains (λ x. are_together other r x ≡ true) (set_of names r)
      (λ j found. name_is_same (name_at other r) (name_at other j) (same j (set_tells names r j found))))

  -- a set that is kept and meets a set is within it
  pub kept_within : (s i : ℕ) → is_kept names other r ≡ true → is_in names r i ≡ true → is_in other s i ≡ true → All (Contains (set_of other s)) (set_of names r)
  kept_within s i kept here there =
      All-from_Contains (Contains (set_of other s)) (set_of names r) (λ j found.
      let among : is_in names r j ≡ true = set_tells names r j found in
      let same : name_at other j ≡ name_at other i = sym (kept_tells kept j among) ∙ kept_tells kept i here in
      in_set other s j (ap (λ o. option_eq nat_eq o (Some s)) same ∙ there))

  -- and one within a set is kept
  pub within_kept : (s : ℕ) → is_in names r r ≡ true → All (Contains (set_of other s)) (set_of names r) → is_kept names other r ≡ true
  within_kept s least within =
      let at : (j : ℕ) → is_in names r j ≡ true → name_at other j ≡ Some s =
      λ j among. same_name (name_at other j) (Some s) (set_tells other s j (All-contains (Contains (set_of other s)) (set_of names r) j within (in_set names r j among))) in
      kept_from (λ j among. at r least ∙ sym (at j among))

module _ (one other : Names) (same_length : length one ≡ length other) where
  abbrev pub all_meet_well : Bool
  all_meet_well = list_all (meets_well one other) (range_with_len 0 (length one))

  pub meets_named : (r s i : ℕ) → name_at one i ≡ Some r → name_at other i ≡ Some s → meets_well one other i ≡ (is_kept one other r || is_kept other one s)
  meets_named r s i e h = rw (e, h) refl

  meets_at : (r s i : ℕ) → is_in one r i ≡ true → is_in other s i ≡ true → meets_well one other i ≡ (is_kept one other r || is_kept other one s)
  meets_at r s i here there = meets_named r s i (same_name (name_at one i) (Some r) here) (same_name (name_at other i) (Some s) there)

  abbrev in_both : ℕ → ℕ → ℕ → Bool
  in_both r s i = is_in one r i && is_in other s i

  sets_nested : all_meet_well ≡ true → (r s : ℕ) → AreNested (set_of one r) (set_of other s)
  sets_nested well r s = by (find (in_both r s) (range_with_len 0 (length one))) refl
    where
      by : (o : Option ℕ) → find (in_both r s) (range_with_len 0 (length one)) ≡ o → AreNested (set_of one r) (set_of other s)
      by (Some i) found =
          let first = find_Some (in_both r s) (length one) i found in
          let two = and_parts (is_in one r i) (is_in other s i) first.passes in
          let meets : meets_well one other i ≡ true = All-contains (λ x. meets_well one other x ≡ true) (range_with_len 0 (length one)) i (AllPass-from_list_all (meets_well one other) (range_with_len 0 (length one)) well) (Contains-range (length one) i first.below) in
          elim (or_cases (is_kept one other r) (is_kept other one s) (sym (meets_at r s i two.0 two.1) ∙ meets)) [
            | inl kept ↦ inr (inl (kept_within one other r s i kept two.0 two.1))
            | inr kept ↦ inr (inr (kept_within other one s r i kept two.1 two.0))
          ]
      by None none = inl (All-from_Contains (λ x. Contains (set_of other s) x → ⊥) (set_of one r) (λ x here there.
          let in_one = set_tells one r x here in
          let two = and_from (is_in one r x) (is_in other s x) in_one (set_tells other s x there) in
          false≢true (sym (find_None (in_both r s) (length one) none x (is_in_below one r x in_one)) ∙ two)))

  pub nested_from : all_meet_well ≡ true → AreAllNested (sets_of one) (sets_of other)
  nested_from well =
      All-from_Contains (λ xs. All (AreNested xs) (sets_of other)) (sets_of one) (λ xs here.
      let r = set_source one xs here in
      All-from_Contains (AreNested xs) (sets_of other) (λ ys there.
      let s = set_source other ys there in
      subst (λ xs. AreNested xs ys) r.2 (subst (λ ys. AreNested (set_of one r.0) ys) s.2 (sets_nested well r.0 s.0))))

  module _ (f : IsFamily one) (g : IsFamily other) where
    meets_from : AreAllNested (sets_of one) (sets_of other) → (i : ℕ) (a b : Option ℕ) → name_at one i ≡ a → name_at other i ≡ b → meets_well one other i ≡ true
    meets_from nested i (Some r) (Some s) e h =
        let here : is_in one r i ≡ true = name_is_same (name_at one i) (Some r) e in
        let there : is_in other s i ≡ true = name_is_same (name_at other i) (Some s) h in
        let least = f.named r i here in
        let least' = g.named s i there in
        let xs = set_of one r in
        let ys = set_of other s in
        let with_one = All-contains (λ zs. All (AreNested zs) (sets_of other)) (sets_of one) xs nested (Contains-sets_of one r least) in
        let pair : AreNested xs ys = All-contains (AreNested xs) (sets_of other) ys with_one (Contains-sets_of other s least') in
        meets_at r s i here there ∙ elim pair [
          | inl apart ↦ absurd (All-contains (λ x. Contains ys x → ⊥) xs i apart (in_set one r i here) (in_set other s i there))
          | inr held ↦ elim held [
            | inl within ↦ or_left (is_kept one other r) (is_kept other one s) (within_kept one other r s least within)
            | inr within ↦ or_right (is_kept one other r) (is_kept other one s) (within_kept other one s r least' within)
          ]
        ]
    meets_from nested i (Some r) None e h = rw (e, h) refl
    meets_from nested i None b e h = rw e refl

    pub nested_tells : AreAllNested (sets_of one) (sets_of other) → all_meet_well ≡ true
    nested_tells nested =
        list_all-from_AllPass (meets_well one other) (range_with_len 0 (length one))
        (All-from_Contains (λ i. meets_well one other i ≡ true) (range_with_len 0 (length one)) (λ i found. meets_from nested i (name_at one i) (name_at other i) refl refl))
