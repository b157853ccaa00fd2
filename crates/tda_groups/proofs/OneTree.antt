-- The groups of a level in order are one list: what is in strict order and has the same sets is the same list.
use Rattle.std.proofs.Common.{◌≡◌, ℕ, zero, suc, ◌<◌, Bool, true, false, cond, List, [], ◌∷◌, ◌↔◌, ◌⊎◌, length, get_or, Contains, All, refl, sym, ap, ◌∙◌, subst, inl, inr, arith}
use Rattle.std.specs.Prelude.{nat_lt, ◌==◌, ◌||◌}
use Rattle.std.specs.List.{AllPairs}
use Rattle.std.proofs.lemmas.Bool.{cases_Bool, cases_order, cases_lt, lt-ltb, ltb-true, eq-eqb, eqb-true, false≢true}
use Rattle.std.proofs.lemmas.List.{get_or_default}
use Rattle.std.proofs.lemmas.List.Elements.{All-contains, All-from_recursion, recursion_from_All, All-contains_itself}
use Rattle.std.proofs.lemmas.Slice.Eq.{bytes_eq-Decides}
use Rattle.std.specs.Str.{bytes_eq}
use Rattle.tda_model.specs.Schema.{Schema, Level}
use Rattle.tda_model.specs.Groups.{IsGroup, group_sets, each_once}
use Rattle.tda_model.proofs.Sums.{Each, each_weaker, each_both}
use Rattle.tda_sets.proofs.Members.{Contains-cases, Contains-here, Contains-later}
use Rattle.tda_sets.proofs.Once.{AreDistinct, each_once_is_distinct, each_once_from, each_once_has}
use Rattle.tda_groups.specs.Order.{ComesBefore, AreGroups, first_cell}
use Rattle.tda_groups.specs.Chains.{comes_before, insert_in_order, sets_in_order, groups_in_order}
use Rattle.tda_groups.specs.Tree.{Tree, IsTreeOf}
use Rattle.tda_groups.proofs.Ordering.{before_trans, not_before_itself}

abbrev Set : Type 0
Set = List ℕ

abbrev InOrder : List Set → Type 0
InOrder [] = Unit {0}
InOrder (x ∷ xs) = Each (ComesBefore x) xs × InOrder xs

in_order : (xs : List Set) → AllPairs ComesBefore xs → InOrder xs
in_order [] h = tt
in_order (x ∷ xs) h = (
  recursion_from_All (ComesBefore x) xs (λ k d l. h 0 (suc k) d (omega arith) (omega (arith, l))),
  in_order xs (λ i j d l m. h (suc i) (suc j) d (omega (arith, l)) (omega (arith, m))),
)

-- ---- one list

abbrev Holds : List Set → List Set → Type 0
Holds xs ys = (z : Set) → Contains xs z → Contains ys z

each_contains : (P : Set → Type 0) (xs : List Set) (z : Set) → Each P xs → Contains xs z → P z
each_contains P xs z each found = All-contains P xs z (All-from_recursion P xs each) found

turned : (x y : Set) → ComesBefore x y → ComesBefore y x → ⊥
turned x y h k = not_before_itself x (before_trans x y x h k)

same_head : (x y : Set) (xs ys : List Set) → InOrder (x ∷ xs) → InOrder (y ∷ ys) → Contains (y ∷ ys) x → Contains (x ∷ xs) y → x ≡ y
same_head x y xs ys hx hy a b =
    elim (Contains-cases y ys x a) [
      | inl e ↦ sym e
      | inr later ↦ elim (Contains-cases x xs y b) [
        | inl e ↦ e
        | inr later2 ↦ absurd (turned x y (each_contains (ComesBefore x) xs y hx.0 later2) (each_contains (ComesBefore y) ys x hy.0 later))
      ]
    ]

tail_holds : (x y : Set) (xs ys : List Set) → x ≡ y → InOrder (x ∷ xs) → Holds (x ∷ xs) (y ∷ ys) → Holds xs ys
tail_holds x y xs ys e hx h z found =
    elim (Contains-cases y ys z (h z (Contains-later x xs z found))) [
      | inl same ↦ absurd (not_before_itself x (subst (ComesBefore x) (sym (e ∙ same)) (each_contains (ComesBefore x) xs z hx.0 found)))
      | inr later ↦ later
    ]

none_in : (z : Set) → Contains [] z → ⊥
none_in z found = absurd (omega (arith, found.1))

same_lists : (xs ys : List Set) → InOrder xs → InOrder ys → Holds xs ys → Holds ys xs → xs ≡ ys
same_lists [] [] hx hy h k = refl
same_lists [] (y ∷ ys) hx hy h k = absurd (none_in y (k y (Contains-here y ys)))
same_lists (x ∷ xs) [] hx hy h k = absurd (none_in x (h x (Contains-here x xs)))
same_lists (x ∷ xs) (y ∷ ys) hx hy h k =
    let e = same_head x y xs ys hx hy (h x (Contains-here x xs)) (k y (Contains-here y ys)) in
    ap (λ z. z ∷ xs) e ∙ ap (λ zs. y ∷ zs) (same_lists xs ys hx.1 hy.1 (tail_holds x y xs ys e hx h) (tail_holds y x ys xs (sym e) hy k))

-- ---- sets put in order

before_tells : (x y : Set) → ComesBefore x y → comes_before x y ≡ true
before_tells x y (inl less) = rw (lt-ltb (first_cell x) (first_cell y) less) refl
before_tells x y (inr (first, size)) = rw (eq-eqb (first_cell x) (first_cell y) first, lt-ltb (length y) (length x) size) (or_true (nat_lt (first_cell x) (first_cell y)))
  where
    or_true : (b : Bool) → (b || true) ≡ true
    or_true true = refl
    or_true false = refl

before_from : (x y : Set) → comes_before x y ≡ true → ComesBefore x y
before_from x y h = elim (cases_Bool (nat_lt (first_cell x) (first_cell y))) [
  | inl less ↦ inl (ltb-true (first_cell x) (first_cell y) less)
  | inr not_less ↦ elim (cases_Bool (first_cell x == first_cell y)) [
    | inl same ↦ let size : nat_lt (length y) (length x) ≡ true = rw (not_less, same) at h in inr (eqb-true (first_cell x) (first_cell y) same, ltb-true (length y) (length x) size)
    | inr differ ↦ let never : false ≡ true = rw (not_less, differ) at h in absurd (false≢true never)
  ]
]

-- one of two comes before the other
abbrev AreApart : Set → Set → Type 0
AreApart x y = ComesBefore x y ⊎ ComesBefore y x

each_inserted : (P : Set → Type 0) (x : Set) (zs : List Set) → P x → Each P zs → Each P (insert_in_order x zs)
each_inserted P x [] p h = (p, tt)
each_inserted P x (z ∷ zs) p h = by (comes_before x z) (each_inserted P x zs p h.1)
  where
    by : (b : Bool) → Each P (insert_in_order x zs) → Each P (cond b (x ∷ z ∷ zs) (z ∷ insert_in_order x zs))
    by true rest = (p, h)
    by false rest = (h.0, rest)

inserted : (x : Set) (zs : List Set) → InOrder zs → Each (AreApart x) zs → InOrder (insert_in_order x zs)
inserted x [] h apart = (tt, tt)
inserted x (z ∷ zs) h apart = by (comes_before x z) refl (inserted x zs h.1 apart.1)
  where
    by : (b : Bool) → comes_before x z ≡ b → InOrder (insert_in_order x zs) → InOrder (cond b (x ∷ z ∷ zs) (z ∷ insert_in_order x zs))
    by true is rest = elim apart.0 [
      | inl before ↦ ((before, each_weaker (ComesBefore z) (ComesBefore x) zs (λ y after. before_trans x z y before after) h.0), h)
      | inr after ↦ absurd (turned x z (before_from x z is) after)
    ]
    by false is rest = elim apart.0 [
      | inl before ↦ absurd (false≢true (sym is ∙ before_tells x z before))
      | inr after ↦ (each_inserted (ComesBefore z) x zs after h.0, rest)
    ]

each_sorted : (P : Set → Type 0) (xs : List Set) → Each P xs → Each P (sets_in_order xs)
each_sorted P [] h = tt
each_sorted P (x ∷ xs) h = each_inserted P x (sets_in_order xs) h.0 (each_sorted P xs h.1)

-- each set is apart from those after it
abbrev AreAllApart : List Set → Type 0
AreAllApart [] = Unit {0}
AreAllApart (x ∷ xs) = Each (AreApart x) xs × AreAllApart xs

sorted : (xs : List Set) → AreAllApart xs → InOrder (sets_in_order xs)
sorted [] h = tt
sorted (x ∷ xs) h = inserted x (sets_in_order xs) (sorted xs h.1) (each_sorted (AreApart x) xs h.0)

insert_has : (x : Set) (zs : List Set) → Contains (insert_in_order x zs) x
insert_has x [] = Contains-here x []
insert_has x (z ∷ zs) = by (comes_before x z) (insert_has x zs)
  where
    by : (b : Bool) → Contains (insert_in_order x zs) x → Contains (cond b (x ∷ z ∷ zs) (z ∷ insert_in_order x zs)) x
    by true rest = Contains-here x (z ∷ zs)
    by false rest = Contains-later z (insert_in_order x zs) x rest

insert_keeps : (x : Set) (zs : List Set) (y : Set) → Contains zs y → Contains (insert_in_order x zs) y
insert_keeps x [] y found = absurd (none_in y found)
insert_keeps x (z ∷ zs) y found = by (comes_before x z) (insert_keeps x zs y)
  where
    by : (b : Bool) → (Contains zs y → Contains (insert_in_order x zs) y) → Contains (cond b (x ∷ z ∷ zs) (z ∷ insert_in_order x zs)) y
    by true keeps = Contains-later x (z ∷ zs) y found
    by false keeps = elim (Contains-cases z zs y found) [
      | inl e ↦ subst (Contains (z ∷ insert_in_order x zs)) e (Contains-here z (insert_in_order x zs))
      | inr later ↦ Contains-later z (insert_in_order x zs) y (keeps later)
    ]

sorted_has : (xs : List Set) (y : Set) → Contains xs y → Contains (sets_in_order xs) y
sorted_has [] y found = found
sorted_has (x ∷ xs) y found = elim (Contains-cases x xs y found) [
  | inl e ↦ subst (Contains (insert_in_order x (sets_in_order xs))) e (insert_has x (sets_in_order xs))
  | inr later ↦ insert_keeps x (sets_in_order xs) y (sorted_has xs y later)
]

each_itself : (xs : List Set) → Each (Contains xs) xs
each_itself xs = recursion_from_All (Contains xs) xs (All-contains_itself xs)

sorted_from : (xs : List Set) (y : Set) → Contains (sets_in_order xs) y → Contains xs y
sorted_from xs y = each_contains (Contains xs) (sets_in_order xs) y (each_sorted (Contains xs) xs (each_itself xs))

-- ---- of groups in order two different ones are apart
module _ (groups : List Set) (h : AreGroups groups) where
  apart : (x y : Set) → Contains groups x → Contains groups y → (x ≡ y → ⊥) → AreApart x y
  apart x y a b other =
      let at_x : get_or groups a.0 [] ≡ x = get_or_default groups a.0 [] x a.1 ∙ a.2 in
      let at_y : get_or groups b.0 [] ≡ y = get_or_default groups b.0 [] y b.1 ∙ b.2 in
      elim (cases_order a.0 b.0) [
        | inl e ↦ absurd (other (sym at_x ∙ ap (λ n. get_or groups n []) e ∙ at_y))
        | inr (inl less) ↦ inl (subst (ComesBefore x) at_y (subst (λ v. ComesBefore v (get_or groups b.0 [])) at_x (h.ordered a.0 b.0 [] less b.1)))
        | inr (inr more) ↦ inr (subst (ComesBefore y) at_x (subst (λ v. ComesBefore v (get_or groups a.0 [])) at_y (h.ordered b.0 a.0 [] more a.1)))
      ]

  all_apart : (xs : List Set) → Each (Contains groups) xs → AreDistinct xs → AreAllApart xs
  all_apart [] each distinct = tt
  all_apart (x ∷ xs) each distinct = (
    each_both (Contains groups) (λ y. bytes_eq x y ≡ false) (AreApart x) xs
        (λ y found differ. apart x y each.0 found (λ e. false≢true (sym differ ∙ (bytes_eq-Decides x y).1 e))) each.1 distinct.0,
    all_apart xs each.1 distinct.1,
  )

  -- they are the level's, in order
  pub groups_listed : (s : Schema) (l : Level) → ((xs : Set) → Contains groups xs ↔ IsGroup s l xs) → groups ≡ groups_in_order s l
  groups_listed s l exact =
      let sets = group_sets s l in
      let once = each_once sets in
      let each : Each (Contains groups) once =
      each_weaker (Contains once) (Contains groups) once (λ z found. (exact z).1 (each_once_from sets z found)) (each_itself once) in
      same_lists groups (sets_in_order once) (in_order groups h.ordered) (sorted once (all_apart once each (each_once_is_distinct sets)))
      (λ z found. sorted_has once z (each_once_has sets z ((exact z).0 found)))
      (λ z found. (exact z).1 (each_once_from sets z (sorted_from once z found)))

-- any two trees of a level have the same groups
pub one_tree : (s : Schema) (l : Level) (t v : Tree) → IsTreeOf s l t → IsTreeOf s l v → t.groups ≡ v.groups
one_tree s l t v is iv = is.listed ∙ sym iv.listed
