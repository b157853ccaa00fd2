-- The sets of the family of the members below a count in which those that are alike are in one set.
use Rattle.std.proofs.Common.{◌≡◌, ◌==◌, ℕ, ◌<◌, Bool, true, false, not, ◌&&◌, List, [], ◌∷◌, map, filter, Contains, Some, None, nat_eq, nat_lt, slice_index_or, refl, sym, ap, ◌∙◌, subst, arith, inl, inr}
use Rattle.std.specs.Cmp.{IsEquivalence}
use Rattle.std.specs.List.{list_all, range_with_len}
use Rattle.std.specs.Option.{option_eq}
use Rattle.std.proofs.lemmas.Bool.{and_parts, and_from, cases_lt, cases_eq, eq-eqb, ne_eqb, eqb-true, lt-ltb, le-ltb, not_from_true, not_from_false, false_from_ne_true, false≢true}
use Rattle.std.proofs.lemmas.List.Elements.{All-contains, filter_agree}
use Rattle.std.proofs.lemmas.List.Sums.{AllPass-from_list_all, list_all-from_AllPass}
use Rattle.tda_sets.specs.Family.{is_in, set_of, firsts, sets_of, first_alike, family_of}
use Rattle.tda_sets.proofs.Ranges.{filter-filter, filter_range_agree}
use Rattle.tda_sets.proofs.Families.{length-family_of, name_is, no_name, has_first, first_alike_same, are_together-family_of}
use Rattle.tda_sets.proofs.Members.{Contains-here, Contains-later, Contains-filter, Contains-unfiltered, filter_holds, Contains-passing, passing_holds, passing_below, All-from_Contains, Contains-map, map_source}

map_agree : {X Y : Type 0} (f g : X → Y) (xs : List X) → ((x : X) → Contains xs x → f x ≡ g x) → map f xs ≡ map g xs
map_agree f g [] same = refl
map_agree f g (x ∷ xs) same = ap (λ y. y ∷ map f xs) (same x (Contains-here x xs)) ∙ ap (λ ys. g x ∷ ys) (map_agree f g xs (λ y found. same y (Contains-later x xs y found)))

module _ (n : ℕ) (marked : ℕ → Bool) (alike : ℕ → ℕ → Bool) where
  abbrev pub members : List ℕ
  members = filter marked (range_with_len 0 n)

  -- the members that are like a number
  abbrev pub mates : ℕ → List ℕ
  mates i = filter (alike i) members

  -- none of them is before it
  abbrev pub is_least : ℕ → Bool
  is_least i = list_all (λ j. not (nat_lt j i)) (mates i)

  abbrev pub least_members : List ℕ
  least_members = filter is_least members

  module _ (eq : IsEquivalence alike) where
    mate_below : (i j : ℕ) → i < n → marked i ≡ true → Contains (mates i) j → j < first_alike n marked alike i → ⊥
    mate_below i j below here found before =
        let member : Contains members j = Contains-unfiltered (alike i) members j found in
        let passes = and_from (marked j) (alike i j) (passing_holds marked n j member) (filter_holds (alike i) members j found) in
        false≢true (sym ((has_first n marked alike eq i below here).first.none_before j before) ∙ passes)

    least_is : (i : ℕ) → i < n → marked i ≡ true → is_least i ≡ (first_alike n marked alike i == i)
    least_is i below here =
        let r = first_alike n marked alike i in
        let test : ℕ → Bool = λ j. not (nat_lt j i) in
        let h = has_first n marked alike eq i below here in
        elim (cases_eq r i) [
          | inl e ↦
              let late : (j : ℕ) → Contains (mates i) j → test j ≡ true =
              λ j found. elim (cases_lt j i) [
                | inl before ↦ absurd (mate_below i j below here found (omega (arith, before, e)))
                | inr past ↦ not_from_false (nat_lt j i) (le-ltb j i past)
              ] in
              list_all-from_AllPass test (mates i) (All-from_Contains (λ j. test j ≡ true) (mates i) late) ∙ sym (eq-eqb r i e)
          | inr other ↦
              let parts = and_parts (marked r) (alike i r) h.first.passes in
              let among : Contains (mates i) r = Contains-filter (alike i) members r (Contains-passing marked n r h.first.below parts.0) parts.1 in
              let before : r < i = omega (arith, h.least, other) in
              false_from_ne_true (is_least i) (λ all.
              let passes : test r ≡ true = All-contains (λ j. test j ≡ true) (mates i) r (AllPass-from_list_all test (mates i) all) among in
              false≢true (sym (not_from_true (nat_lt r i) (lt-ltb r i before)) ∙ passes))
              ∙ sym (ne_eqb r i other)
        ]

    pub firsts_are : firsts (family_of n marked alike) ≡ least_members
    firsts_are =
        let F = family_of n marked alike in
        ap (λ m. filter (λ i. is_in F i i) (range_with_len 0 m)) (length-family_of n marked alike)
        ∙ filter_range_agree (λ i. is_in F i i) (λ i. marked i && is_least i) 0 n (λ i low high. here i (omega arith) (marked i) refl)
        ∙ sym (filter-filter is_least marked (range_with_len 0 n))
      where
        here : (i : ℕ) → i < n → (b : Bool) → marked i ≡ b → is_in (family_of n marked alike) i i ≡ (marked i && is_least i)
        here i below true e =
            ap (λ o. option_eq nat_eq o (Some i)) (name_is n marked alike i below e) ∙ sym (least_is i below e) ∙ sym (ap (λ b. b && is_least i) e)
        here i below false e = ap (λ o. option_eq nat_eq o (Some i)) (no_name n marked alike i below e) ∙ sym (ap (λ b. b && is_least i) e)

    set_is : (r : ℕ) → r < n → marked r ≡ true → first_alike n marked alike r ≡ r → set_of (family_of n marked alike) r ≡ mates r
    set_is r low chosen first =
        let F = family_of n marked alike in
        ap (λ m. filter (is_in F r) (range_with_len 0 m)) (length-family_of n marked alike)
        ∙ filter_range_agree (is_in F r) (λ i. marked i && alike r i) 0 n (λ i low high. here i (omega arith) (marked i) refl)
        ∙ sym (filter-filter (alike r) marked (range_with_len 0 n))
      where
        here : (i : ℕ) → i < n → (b : Bool) → marked i ≡ b → is_in (family_of n marked alike) r i ≡ (marked i && alike r i)
        here i below true e =
            let F = family_of n marked alike in
            let r_named = name_is n marked alike r low chosen ∙ ap Some first in
            ap (λ o. option_eq nat_eq (slice_index_or F i None) o) (sym r_named) ∙ are_together-family_of n marked alike eq i r below low e chosen ∙ eq.symm i r ∙ sym (ap (λ b. b && alike r i) e)
        here i below false e = ap (λ o. option_eq nat_eq o (Some r)) (no_name n marked alike i below e) ∙ sym (ap (λ b. b && alike r i) e)

    pub record IsLeast (r : ℕ) : Type 0 where
      pub below : r < n
      pub chosen : marked r ≡ true
      pub first : first_alike n marked alike r ≡ r

    least_tells : (r : ℕ) → Contains least_members r → IsLeast r
    least_tells r found =
        let member : Contains members r = Contains-unfiltered is_least members r found in
        let below = passing_below marked n r member in
        let chosen = passing_holds marked n r member in
        record { below = below; chosen = chosen; first = eqb-true (first_alike n marked alike r) r (sym (least_is r below chosen) ∙ filter_holds is_least members r found) }

    -- the sets are those of the least members, in order
    pub sets_are : sets_of (family_of n marked alike) ≡ map mates least_members
    sets_are =
        ap (map (set_of (family_of n marked alike))) firsts_are
        ∙ map_agree (set_of (family_of n marked alike)) mates least_members (λ r found. let l = least_tells r found in set_is r l.below l.chosen l.first)

    -- and each member's mates are a set
    pub set_from : (i : ℕ) → i < n → marked i ≡ true → Contains (sets_of (family_of n marked alike)) (mates i)
    set_from i below here =
        let r = first_alike n marked alike i in
        let h = (has_first n marked alike eq i below here).first in
        let parts = and_parts (marked r) (alike i r) h.passes in
        let again : first_alike n marked alike r ≡ r = sym (first_alike_same n marked alike eq i r parts.1) in
        let least : is_least r ≡ true = least_is r h.below parts.0 ∙ eq-eqb (first_alike n marked alike r) r again in
        let among : Contains least_members r = Contains-filter is_least members r (Contains-passing marked n r h.below parts.0) least in
        let same : mates r ≡ mates i = filter_agree (alike r) (alike i) (λ x. sym (eq.congr i r x parts.1)) members in
        rw sets_are (subst (λ xs. Contains (map mates least_members) xs) same (Contains-map mates least_members r among))

    pub set_tells : (xs : List ℕ) → Contains (sets_of (family_of n marked alike)) xs → (r : ℕ) × (r < n) × (marked r ≡ true) × (mates r ≡ xs)
    set_tells xs found =
        let s = map_source mates least_members xs (subst (λ xss. Contains xss xs) sets_are found) in
        let l = least_tells s.0 s.1 in
        (s.0, l.below, l.chosen, s.2)
