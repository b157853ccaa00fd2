-- Sets of which no two cross are few: at most one more than twice the cells.
-- Take the first cell away: of the sets at most the one that has this cell alone gets empty, and at most two get equal.
use Rattle.std.proofs.Common.{◌≡◌, ℕ, suc, ◌+◌, ◌≤◌, ◌⊎◌, ◌==◌, cond, eq-eqb, Bool, true, false, not, List, [], ◌∷◌, ◌++◌, length, map, filter, refl, sym, ap, ◌∙◌, subst, inl, inr, arith, length-append}
use Rattle.std.specs.Str.{bytes_eq}
use Rattle.std.proofs.lemmas.Bool.{eqb-true}
use Rattle.std.proofs.lemmas.List.{length-map}
use Rattle.std.proofs.lemmas.Slice.Eq.{bytes_eq-Decides}

-- ---- what stands in a list
abbrev pub In : {X : Type 0} → X → List X → Type 0
In x [] = ⊥
In x (y ∷ ys) = (x ≡ y) ⊎ In x ys

module _ {X : Type 0} where
  in_left : (x : X) (xs ys : List X) → In x xs → In x (xs ++ ys)
  in_left x [] ys h = absurd h
  in_left x (z ∷ xs) ys (inl e) = inl e
  in_left x (z ∷ xs) ys (inr h) = inr (in_left x xs ys h)

  pub in_either : (x : X) (xs ys : List X) → In x (xs ++ ys) → In x xs ⊎ In x ys
  in_either x [] ys h = inr h
  in_either x (z ∷ xs) ys (inl e) = inl (inl e)
  in_either x (z ∷ xs) ys (inr h) = elim (in_either x xs ys h) [ inl a ↦ inl (inr a) | inr b ↦ inr b ]

  module _ (p : X → Bool) where
    pub record Passes (x : X) (xs : List X) : Type 0 where
      pub here : In x xs
      pub passes : p x ≡ true

    passed_by : (z x : X) (xs : List X) (b : Bool) → p z ≡ b → (In x (filter p xs) → Passes x xs) → In x (cond b (z ∷ filter p xs) (filter p xs)) → Passes x (z ∷ xs)
    passed_by z x xs true e rest (inl same) = record { here = inl same; passes = ap p same ∙ e }
    passed_by z x xs true e rest (inr h) = let r = rest h in record { here = inr r.here; passes = r.passes }
    passed_by z x xs false e rest h = let r = rest h in record { here = inr r.here; passes = r.passes }

    pub passed : (x : X) (xs : List X) → In x (filter p xs) → Passes x xs
    passed x [] h = absurd h
    passed x (z ∷ xs) h = passed_by z x xs (p z) refl (passed x xs) h

    kept_by : (z : X) (xs : List X) (b : Bool) → length (cond b (z ∷ filter p xs) (filter p xs)) + length (cond (not b) (z ∷ filter (λ x. not (p x)) xs) (filter (λ x. not (p x)) xs)) ≡ suc (length (filter p xs) + length (filter (λ x. not (p x)) xs))
    kept_by z xs true = omega arith
    kept_by z xs false = omega arith

    -- those that pass and those that don't are all
    both_parts : (xs : List X) → length (filter p xs) + length (filter (λ x. not (p x)) xs) ≡ length xs
    both_parts [] = refl
    both_parts (z ∷ xs) = kept_by z xs (p z) ∙ ap suc (both_parts xs)

  -- no two are equal
  abbrev pub AreApart : List X → Type 0
  AreApart [] = Unit {0}
  AreApart (x ∷ xs) = (In x xs → ⊥) × AreApart xs

  pub apart_filter : (p : X → Bool) (xs : List X) → AreApart xs → AreApart (filter p xs)
  apart_filter p [] h = tt
  apart_filter p (x ∷ xs) h = by (p x) (apart_filter p xs h.1)
    where
      by : (b : Bool) → AreApart (filter p xs) → AreApart (cond b (x ∷ filter p xs) (filter p xs))
      by true rest = ((λ i. h.0 (passed p x xs i).here), rest)
      by false rest = rest

  apart_append : (xs ys : List X) → AreApart xs → AreApart ys → ((x : X) → In x xs → In x ys → ⊥) → AreApart (xs ++ ys)
  apart_append [] ys h k other = k
  apart_append (x ∷ xs) ys h k other = (
    (λ i. elim (in_either x xs ys i) [ inl a ↦ h.0 a | inr b ↦ other x (inl refl) b ]),
    apart_append xs ys h.1 k (λ y a b. other y (inr a) b),
  )

  -- of which each two are equal, there is at most one
  pub at_most_one : (xs : List X) → AreApart xs → ((x y : X) → In x xs → In y xs → x ≡ y) → length xs ≤ 1
  at_most_one [] h same = omega arith
  at_most_one (x ∷ []) h same = omega arith
  at_most_one (x ∷ y ∷ xs) h same = absurd (h.0 (inl (same x y (inl refl) (inr (inl refl)))))

-- ---- sets of cells: what is left of the cells where some are taken away
abbrev pub IsPart : List ℕ → List ℕ → Type 0
IsPart [] xs = xs ≡ []
IsPart (c ∷ cs) xs = ((rest : List ℕ) × (xs ≡ c ∷ rest) × IsPart cs rest) ⊎ IsPart cs xs

pub filter_part : (p : ℕ → Bool) (cells : List ℕ) → IsPart cells (filter p cells)
filter_part p [] = refl
filter_part p (c ∷ cs) = by (p c) (filter_part p cs)
  where
    by : (b : Bool) → IsPart cs (filter p cs) → IsPart (c ∷ cs) (cond b (c ∷ filter p cs) (filter p cs))
    by true h = inl (filter p cs, refl, h)
    by false h = inr h

part_in : (cells xs : List ℕ) (x : ℕ) → IsPart cells xs → In x xs → In x cells
part_in [] xs x h i = subst (In x) h i
part_in (c ∷ cs) xs x (inl h) i = elim (subst (In x) h.1 i) [ inl e ↦ inl e | inr j ↦ inr (part_in cs h.0 x h.2 j) ]
part_in (c ∷ cs) xs x (inr h) i = inr (part_in cs xs x h i)

abbrev pub IsWithin : List ℕ → List ℕ → Type 0
IsWithin xs ys = (x : ℕ) → In x xs → In x ys

-- no cell in common, or the one holds the other
abbrev pub DoNotCross : List ℕ → List ℕ → Type 0
DoNotCross xs ys = ((x : ℕ) → In x xs → In x ys → ⊥) ⊎ (IsWithin xs ys ⊎ IsWithin ys xs)

-- equal sets are equal lists
same_part : (cells xs ys : List ℕ) → AreApart cells → IsPart cells xs → IsPart cells ys → IsWithin xs ys → IsWithin ys xs → xs ≡ ys
same_part [] xs ys apart h k there back = h ∙ sym k
same_part (c ∷ cs) xs ys apart (inl h) (inl k) there back =
    h.1 ∙ ap (λ r. c ∷ r) (same_part cs h.0 k.0 apart.1 h.2 k.2 (less h.0 k.0 h.2 (λ x i. subst (In x) k.1 (there x (subst (In x) (sym h.1) i)))) (less k.0 h.0 k.2 (λ x i. subst (In x) h.1 (back x (subst (In x) (sym k.1) i))))) ∙ sym k.1
  where
    less : (firsts seconds : List ℕ) → IsPart cs firsts → IsWithin (c ∷ firsts) (c ∷ seconds) → IsWithin firsts seconds
    less firsts seconds part within x i = elim (within x (inr i)) [ inl e ↦ absurd (apart.0 (subst (λ y. In y cs) e (part_in cs firsts x part i))) | inr j ↦ j ]
same_part (c ∷ cs) xs ys apart (inl h) (inr k) there back = absurd (apart.0 (part_in cs ys c k (there c (subst (In c) (sym h.1) (inl refl)))))
same_part (c ∷ cs) xs ys apart (inr h) (inl k) there back = absurd (apart.0 (part_in cs xs c h (back c (subst (In c) (sym k.1) (inl refl)))))
same_part (c ∷ cs) xs ys apart (inr h) (inr k) there back = same_part cs xs ys apart.1 h k there back

-- ---- without the first cell
holds : List ℕ → List (List ℕ) → Bool
holds t [] = false
holds t (y ∷ ys) = cond (bytes_eq t y) true (holds t ys)

holds_in : (t : List ℕ) (ys : List (List ℕ)) → holds t ys ≡ true → In t ys
unfolding holds
holds_in t [] e = absurd cc
holds_in t (y ∷ ys) e = by (bytes_eq t y) refl e (holds_in t ys)
  where
    by : (b : Bool) → bytes_eq t y ≡ b → cond b true (holds t ys) ≡ true → (holds t ys ≡ true → In t ys) → In t (y ∷ ys)
    by true same e rest = inl ((bytes_eq-Decides t y).0 same)
    by false other e rest = inr (rest e)

in_holds : (t : List ℕ) (ys : List (List ℕ)) → In t ys → holds t ys ≡ true
unfolding holds
in_holds t [] h = absurd h
in_holds t (y ∷ ys) (inl e) = ap (λ b. cond b true (holds t ys)) ((bytes_eq-Decides t y).1 e)
in_holds t (y ∷ ys) (inr h) = by (bytes_eq t y) (in_holds t ys h)
  where
    by : (b : Bool) → holds t ys ≡ true → cond b true (holds t ys) ≡ true
    by true rest = refl
    by false rest = rest

is_none : List ℕ → Bool
is_none [] = true
is_none (x ∷ xs) = false

none_is : (xs : List ℕ) → is_none xs ≡ true → xs ≡ []
unfolding is_none
none_is [] e = refl
none_is (x ∷ xs) e = absurd cc

some_is : (xs : List ℕ) → not (is_none xs) ≡ true → (x : ℕ) × In x xs
unfolding is_none
some_is [] e = absurd cc
some_is (x ∷ xs) e = (x, inl refl)

begins : ℕ → List ℕ → Bool
begins c [] = false
begins c (x ∷ xs) = x == c

rest_of : List ℕ → List ℕ
rest_of [] = []
rest_of (x ∷ xs) = xs

begins_is : (c : ℕ) (xs : List ℕ) → begins c xs ≡ true → xs ≡ c ∷ rest_of xs
unfolding begins rest_of
begins_is c [] e = absurd cc
begins_is c (x ∷ xs) e = ap (λ y. y ∷ xs) (eqb-true x c e)

module _ (c : ℕ) (cs : List ℕ) (fresh : In c cs → ⊥) where
  begun : (xs : List ℕ) → IsPart (c ∷ cs) xs → begins c xs ≡ true → IsPart cs (rest_of xs)
  unfolding rest_of
  begun xs (inl h) e = subst (IsPart cs) (sym (ap rest_of h.1)) h.2
  begun xs (inr h) e = absurd (fresh (part_in cs xs c h (subst (In c) (sym (begins_is c xs e)) (inl refl))))

  other : (xs : List ℕ) → IsPart (c ∷ cs) xs → not (begins c xs) ≡ true → IsPart cs xs
  unfolding begins
  other xs (inl h) e = absurd (let own : begins c xs ≡ true = ap (begins c) h.1 ∙ eq-eqb c c refl in let no = sym (ap not own) ∙ e in cc)
  other xs (inr h) e = h

  lighter : (xs ys : List ℕ) → IsPart cs xs → IsWithin (c ∷ xs) (c ∷ ys) → IsWithin xs ys
  lighter xs ys part within z i = elim (within z (inr i)) [ inl e ↦ absurd (fresh (subst (λ w. In w cs) e (part_in cs xs z part i))) | inr j ↦ j ]

  lighter_right : (xs ys : List ℕ) → IsPart cs xs → IsWithin xs (c ∷ ys) → IsWithin xs ys
  lighter_right xs ys part within z i = elim (within z i) [ inl e ↦ absurd (fresh (subst (λ w. In w cs) e (part_in cs xs z part i))) | inr j ↦ j ]

  no_first : (xs : List ℕ) → IsPart cs xs → In c xs → ⊥
  no_first xs part i = fresh (part_in cs xs c part i)

  both_lighter : (xs ys : List ℕ) → IsPart cs xs → IsPart cs ys → DoNotCross (c ∷ xs) (c ∷ ys) → DoNotCross xs ys
  both_lighter xs ys p q (inl apart) = absurd (apart c (inl refl) (inl refl))
  both_lighter xs ys p q (inr (inl h)) = inr (inl (lighter xs ys p h))
  both_lighter xs ys p q (inr (inr h)) = inr (inr (lighter ys xs q h))

  one_lighter : (xs ys : List ℕ) → IsPart cs xs → IsPart cs ys → DoNotCross xs (c ∷ ys) → DoNotCross xs ys
  one_lighter xs ys p q (inl apart) = inl (λ z i j. apart z i (inr j))
  one_lighter xs ys p q (inr (inl h)) = inr (inl (lighter_right xs ys p h))
  one_lighter xs ys p q (inr (inr h)) = absurd (no_first xs p (h c (inl refl)))

  turned : (xs ys : List ℕ) → DoNotCross xs ys → DoNotCross ys xs
  turned xs ys (inl h) = inl (λ z i j. h z j i)
  turned xs ys (inr (inl h)) = inr (inr h)
  turned xs ys (inr (inr h)) = inr (inl h)

  -- two sets that stand both with the first cell and without it are one
  module _ (xs ys : List ℕ) (distinct : AreApart cs) (p : IsPart cs xs) (q : IsPart cs ys) (x : (z : ℕ) × In z xs) (y : (z : ℕ) × In z ys) where
    within_same : IsWithin xs ys → DoNotCross (c ∷ xs) ys → xs ≡ ys
    within_same within (inl apart) = absurd (apart x.0 (inr x.1) (within x.0 x.1))
    within_same within (inr (inl h)) = absurd (no_first ys q (h c (inl refl)))
    within_same within (inr (inr h)) = same_part cs xs ys distinct p q within (lighter_right ys xs q h)

  both_same : (xs ys : List ℕ) → AreApart cs → IsPart cs xs → IsPart cs ys → (z : ℕ) × In z xs → (z : ℕ) × In z ys
      → DoNotCross (c ∷ xs) (c ∷ ys) → DoNotCross (c ∷ xs) ys → DoNotCross (c ∷ ys) xs → xs ≡ ys
  both_same xs ys distinct p q x y (inl apart) left right = absurd (apart c (inl refl) (inl refl))
  both_same xs ys distinct p q x y (inr (inl h)) left right = within_same xs ys distinct p q x y (lighter xs ys p h) left
  both_same xs ys distinct p q x y (inr (inr h)) left right = sym (within_same ys xs distinct q p y x (lighter ys xs q h) right)

-- sets, no two of them equal and no two crossing
pub record AreNestedSets (cells : List ℕ) (sets : List (List ℕ)) : Type 0 where
  pub apart : AreApart sets
  pub part : (xs : List ℕ) → In xs sets → IsPart cells xs
  pub nested : (xs ys : List ℕ) → In xs sets → In ys sets → DoNotCross xs ys

module _ (c : ℕ) (cs : List ℕ) (fresh : In c cs → ⊥) (distinct : AreApart cs) (sets : List (List ℕ)) (h : AreNestedSets (c ∷ cs) sets) where
  abbrev with_first : List (List ℕ)
  with_first = filter (begins c) sets

  abbrev without : List (List ℕ)
  without = filter (λ xs. not (begins c xs)) sets

  abbrev rests : List (List ℕ)
  rests = map rest_of with_first

  in_rests : (all : List (List ℕ)) → ((xs : List ℕ) → In xs all → begins c xs ≡ true) → (t : List ℕ) → In t (map rest_of all) → In (c ∷ t) all
  in_rests [] starts t i = absurd i
  in_rests (xs ∷ all) starts t (inl e) = inl (ap (λ r. c ∷ r) e ∙ sym (begins_is c xs (starts xs (inl refl))))
  in_rests (xs ∷ all) starts t (inr i) = inr (in_rests all (λ ys j. starts ys (inr j)) t i)

  rests_apart : (all : List (List ℕ)) → ((xs : List ℕ) → In xs all → begins c xs ≡ true) → AreApart all → AreApart (map rest_of all)
  rests_apart [] starts k = tt
  rests_apart (xs ∷ all) starts k = (
    (λ i. k.0 (subst (λ ys. In ys all) (sym (begins_is c xs (starts xs (inl refl)))) (in_rests all (λ ys j. starts ys (inr j)) (rest_of xs) i))),
    rests_apart all (λ ys j. starts ys (inr j)) k.1,
  )

  starts_all : (xs : List ℕ) → In xs with_first → begins c xs ≡ true
  starts_all xs i = (passed (begins c) xs sets i).passes

  whole_in : (t : List ℕ) → In t rests → In (c ∷ t) sets
  whole_in t i = (passed (begins c) (c ∷ t) sets (in_rests with_first starts_all t i)).here

  rest_part : (t : List ℕ) → In t rests → IsPart cs t
  unfolding rest_of
  rest_part t i = begun c cs fresh (c ∷ t) (h.part (c ∷ t) (whole_in t i)) (passed (begins c) (c ∷ t) sets (in_rests with_first starts_all t i)).passes

  in_sets : (xs : List ℕ) → In xs without → In xs sets
  in_sets xs i = (passed (λ xs. not (begins c xs)) xs sets i).here

  without_part : (xs : List ℕ) → In xs without → IsPart cs xs
  without_part xs i = other c cs fresh xs (h.part xs (in_sets xs i)) (passed (λ xs. not (begins c xs)) xs sets i).passes

  -- those that get empty, or equal to another
  abbrev lost : List ℕ → Bool
  lost t = holds t ([] ∷ without)

  abbrev gone : List (List ℕ)
  gone = filter lost rests

  abbrev fresh_rests : List (List ℕ)
  fresh_rests = filter (λ t. not (lost t)) rests

  abbrev left : List (List ℕ)
  left = without ++ fresh_rests

  gone_in : (t : List ℕ) → In t gone → (z : ℕ) × In z t → In t without
  gone_in t i z = elim (holds_in t ([] ∷ without) (passed lost t rests i).passes) [ inl e ↦ absurd (subst (In z.0) e z.1) | inr j ↦ j ]

  rests_all_apart : AreApart rests
  rests_all_apart = rests_apart with_first starts_all (apart_filter (begins c) sets h.apart)

  few_gone : length gone ≤ 2
  few_gone =
      let empty : length (filter is_none gone) ≤ 1 =
      at_most_one (filter is_none gone) (apart_filter is_none gone (apart_filter lost rests rests_all_apart)) (λ x y i j.
      none_is x (passed is_none x gone i).passes ∙ sym (none_is y (passed is_none y gone j).passes)) in
      let one : length (filter (λ t. not (is_none t)) gone) ≤ 1 =
      at_most_one (filter (λ t. not (is_none t)) gone) (apart_filter (λ t. not (is_none t)) gone (apart_filter lost rests rests_all_apart)) (λ x y i j.
      let px = passed (λ t. not (is_none t)) x gone i in
      let py = passed (λ t. not (is_none t)) y gone j in
      let x_rest = (passed lost x rests px.here).here in
      let y_rest = (passed lost y rests py.here).here in
      let x_some = some_is x px.passes in
      let y_some = some_is y py.passes in
      let x_here = in_sets x (gone_in x px.here x_some) in
      let y_here = in_sets y (gone_in y py.here y_some) in
      both_same c cs fresh x y distinct (rest_part x x_rest) (rest_part y y_rest) x_some y_some
      (h.nested (c ∷ x) (c ∷ y) (whole_in x x_rest) (whole_in y y_rest)) (h.nested (c ∷ x) y (whole_in x x_rest) y_here) (h.nested (c ∷ y) x (whole_in y y_rest) x_here)) in
      omega (arith, both_parts is_none gone, empty, one)

  left_nested : AreNestedSets cs left
  left_nested = record {
    apart = apart_append without fresh_rests (apart_filter (λ xs. not (begins c xs)) sets h.apart) (apart_filter (λ t. not (lost t)) rests rests_all_apart) (λ x i j.
        let other = (passed (λ t. not (lost t)) x rests j).passes in
        let own : lost x ≡ true = in_holds x ([] ∷ without) (inr i) in
        let no = sym (ap not own) ∙ other in absurd cc);
    part = λ xs i. elim (in_either xs without fresh_rests i) [ inl a ↦ without_part xs a | inr b ↦ rest_part xs (passed (λ t. not (lost t)) xs rests b).here ];
    nested = λ xs ys i j. elim (in_either xs without fresh_rests i) [
      | inl a ↦ elim (in_either ys without fresh_rests j) [
        | inl b ↦ h.nested xs ys (in_sets xs a) (in_sets ys b)
        | inr b ↦
            let r = (passed (λ t. not (lost t)) ys rests b).here in
            one_lighter c cs fresh xs ys (without_part xs a) (rest_part ys r) (h.nested xs (c ∷ ys) (in_sets xs a) (whole_in ys r))
      ]
      | inr a ↦
          let q = (passed (λ t. not (lost t)) xs rests a).here in
          elim (in_either ys without fresh_rests j) [
            | inl b ↦ turned c cs fresh ys xs (one_lighter c cs fresh ys xs (without_part ys b) (rest_part xs q) (h.nested ys (c ∷ xs) (in_sets ys b) (whole_in xs q)))
            | inr b ↦
                let r = (passed (λ t. not (lost t)) ys rests b).here in
                both_lighter c cs fresh xs ys (rest_part xs q) (rest_part ys r) (h.nested (c ∷ xs) (c ∷ ys) (whole_in xs q) (whole_in ys r))
          ]
    ];
  }

  two_more : length sets ≤ length left + 2
  two_more = omega (arith, both_parts (begins c) sets, length-map with_first rest_of, both_parts lost rests, few_gone, length-append without fresh_rests)

-- at most one more than twice the cells
pub few_sets : (cells : List ℕ) → AreApart cells → (sets : List (List ℕ)) → AreNestedSets cells sets → length sets ≤ length cells + length cells + 1
few_sets [] apart sets h = at_most_one sets h.apart (λ x y i j. h.part x i ∙ sym (h.part y j))
few_sets (c ∷ cs) apart sets h =
    omega (arith, two_more c cs apart.0 apart.1 sets h, few_sets cs apart.1 (left c cs apart.0 apart.1 sets h) (left_nested c cs apart.0 apart.1 sets h))
