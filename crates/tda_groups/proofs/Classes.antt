-- The classes of a query over all possible cells: a cell's class is named by its first cell.
use Rattle.std.proofs.Common.{◌≡◌, ◌==◌, ℕ, ◌<◌, ◌≤◌, Bool, true, false, cond, not, ◌&&◌, List, [], ◌∷◌, length, get_or, map, filter, Contains, nat_lt, refl, sym, ap, ◌∙◌, subst, arith, inl, inr}
use Rattle.std.specs.List.{list_all}
use Rattle.std.specs.List.Sorted.{IsStrictlyIncreasing}
use Rattle.std.specs.Str.{bytes_eq}
use Rattle.std.proofs.lemmas.Bool.{cases_lt, eqb-true, eq-eqb, ltb-false, le-ltb, and_from, and_parts, not-true, not_from_false}
use Rattle.std.proofs.lemmas.List.{get_or_past}
use Rattle.std.proofs.lemmas.List.Elements.{All-contains, Contains-get_or, filter_agree}
use Rattle.std.proofs.lemmas.List.Kept.{IsStrictlyIncreasing-filter}
use Rattle.std.proofs.lemmas.List.Sums.{AllPass-from_list_all, list_all-from_AllPass}
use Rattle.std.proofs.lemmas.Slice.Eq.{bytes_eq-Decides}
use Rattle.tda_model.specs.Schema.{Entry, Attribute_values, Recode_labels, Query, Schema}
use Rattle.tda_model.specs.Cells.{cell_count, value_at, is_listed, is_possible, all_cells, possible_cells}
use Rattle.tda_model.specs.Groups.{label_of, alike_at, one_class, scope_cells, class_cells, is_class, classes_of}
use Rattle.tda_model.proofs.Sums.{each_any}
use Rattle.tda_schema.specs.Stated.{class_of}
use Rattle.tda_sets.proofs.Ranges.{filter_all}
use Rattle.tda_sets.proofs.Members.{Contains-here, Contains-later, Contains-filter, Contains-unfiltered, filter_holds, passing_below, Contains-range, All-from_Contains, Contains-map, map_source}
use Rattle.tda_groups.specs.Sources.{named_cells, class_sets}
use Rattle.tda_groups.proofs.Ascending.{filter_rises, ascends, first_is_least}

module _ (s : Schema) (q : Query) where
  in_scope : (z : ℕ) → Contains (scope_cells s q) z → z < cell_count s
  in_scope z found = passing_below (is_possible s) (cell_count s) z (Contains-unfiltered _ (possible_cells s) z found)

  pub class_below : (cell : ℕ) → cell < cell_count s → class_of s q cell < cell_count s
  class_below cell below =
      let xs = class_cells s q cell in
      elim (cases_lt 0 (length xs)) [
        | inl some ↦ in_scope (class_of s q cell) (Contains-unfiltered (one_class s q cell) (scope_cells s q) (class_of s q cell) (Contains-get_or xs 0 0 some))
        | inr none ↦ let e : class_of s q cell ≡ 0 = get_or_past xs 0 0 none in omega arith
      ]

-- ---- cells that are alike

same_texts : (xs ys : List ℕ) → bytes_eq xs ys ≡ true → xs ≡ ys
same_texts xs ys e = (bytes_eq-Decides xs ys).0 e

module _ (s : Schema) where
  alike_itself : (i : ℕ) (e : Entry) → alike_at s i i e ≡ true
  alike_itself i (Attribute_values a) = eq-eqb (value_at s i a) (value_at s i a) refl
  alike_itself i (Recode_labels r) = (bytes_eq-Decides (label_of s r i) (label_of s r i)).1 refl

  alike_same : (i j z : ℕ) (e : Entry) → alike_at s i j e ≡ true → alike_at s i z e ≡ alike_at s j z e
  alike_same i j z (Attribute_values a) h = ap (λ v. v == value_at s z a) (eqb-true (value_at s i a) (value_at s j a) h)
  alike_same i j z (Recode_labels r) h = ap (λ v. bytes_eq v (label_of s r z)) (same_texts (label_of s r i) (label_of s r j) h)

  all_alike : (i : ℕ) (by : List Entry) → list_all (alike_at s i i) by ≡ true
  all_alike i [] = refl
  all_alike i (e ∷ by) = and_from (alike_at s i i e) (list_all (alike_at s i i) by) (alike_itself i e) (all_alike i by)

  all_same : (i j z : ℕ) (by : List Entry) → list_all (alike_at s i j) by ≡ true → list_all (alike_at s i z) by ≡ list_all (alike_at s j z) by
  all_same i j z [] h = refl
  all_same i j z (e ∷ by) h =
      let parts = and_parts (alike_at s i j e) (list_all (alike_at s i j) by) h in
      ap (λ b. b && list_all (alike_at s i z) by) (alike_same i j z e parts.0) ∙ ap (λ b. alike_at s j z e && b) (all_same i j z by parts.1)

filter_same : (p r : ℕ → Bool) (xs : List ℕ) → ((x : ℕ) → Contains xs x → p x ≡ r x) → filter p xs ≡ filter r xs
filter_same p r [] same = refl
filter_same p r (x ∷ xs) same =
    rw (same x (Contains-here x xs)) (ap (λ ys. cond (r x) (x ∷ ys) ys) (filter_same p r xs (λ z found. same z (Contains-later x xs z found))))

-- two tests that pass together are one
same_test : (a b : Bool) → (a ≡ true → b ≡ true) → (b ≡ true → a ≡ true) → a ≡ b
same_test true b f g = sym (f refl)
same_test false true f g = g refl
same_test false false f g = refl

-- ---- the classes of a query over all possible cells

pub possible_rises : (s : Schema) → IsStrictlyIncreasing (possible_cells s)
possible_rises s = filter_rises (is_possible s) (cell_count s)

module _ (s : Schema) (q : Query) (over_all : q.only ≡ []) where
  abbrev possible : List ℕ
  possible = possible_cells s

  pub scope_is : scope_cells s q ≡ possible
  scope_is = ap (λ o. filter (is_listed s o) possible) over_all ∙ filter_all (is_listed s []) possible (each_any (λ x. is_listed s [] x ≡ true) possible (λ x. refl))

  class_is : (j : ℕ) → class_cells s q j ≡ filter (one_class s q j) possible
  class_is j = ap (filter (one_class s q j)) scope_is

  rises : (j : ℕ) → IsStrictlyIncreasing (class_cells s q j)
  rises j = rw class_is (IsStrictlyIncreasing-filter (one_class s q j) possible (possible_rises s))

  pub member_possible : (j z : ℕ) → Contains (class_cells s q j) z → Contains possible z
  member_possible j z found = Contains-unfiltered (one_class s q j) possible z (subst (λ xs. Contains xs z) (class_is j) found)

  member_alike : (j z : ℕ) → Contains (class_cells s q j) z → one_class s q j z ≡ true
  member_alike j z found = filter_holds (one_class s q j) (scope_cells s q) z found

  member_from : (j z : ℕ) → Contains possible z → one_class s q j z ≡ true → Contains (class_cells s q j) z
  member_from j z found alike = subst (λ xs. Contains xs z) (sym (class_is j)) (Contains-filter (one_class s q j) possible z found alike)

  same_class : (i j : ℕ) → one_class s q i j ≡ true → class_cells s q i ≡ class_cells s q j
  same_class i j alike = filter_agree (one_class s q i) (one_class s q j) (λ z. all_same s i j z q.by alike) (scope_cells s q)

  has_itself : (j : ℕ) → Contains possible j → Contains (class_cells s q j) j
  has_itself j can = member_from j j can (all_alike s j q.by)

  has_name : (j : ℕ) → Contains possible j → Contains (class_cells s q j) (class_of s q j)
  has_name j can = let found = has_itself j can in Contains-get_or (class_cells s q j) 0 0 (omega (arith, found.1))

  -- the class that a cell names is its own
  name_class : (j : ℕ) → Contains possible j → class_cells s q j ≡ class_cells s q (class_of s q j)
  name_class j can = same_class j (class_of s q j) (member_alike j (class_of s q j) (has_name j can))

  -- a cell that names a class: its own class begins with it
  abbrev pub Names : ℕ → Type 0
  Names c = Contains possible c × (class_of s q c ≡ c)

  pub names_class : (j : ℕ) → Contains possible j → Names (class_of s q j)
  names_class j can = (member_possible j (class_of s q j) (has_name j can), ap (λ xs. get_or xs 0 0) (sym (name_class j can)))

  named_over_all : (c : ℕ) → named_cells s q c ≡ filter (λ j. class_of s q j == c) possible
  named_over_all c = ap (filter (λ j. class_of s q j == c)) scope_is

  pub named_is : (c : ℕ) → Names c → named_cells s q c ≡ class_cells s q c
  named_is c names =
      named_over_all c
      ∙ filter_same (λ j. class_of s q j == c) (one_class s q c) possible (λ j can.
      same_test (class_of s q j == c) (one_class s q c j)
      (λ h. member_alike c j (subst (λ xs. Contains xs j) (name_class j can ∙ ap (class_cells s q) (eqb-true (class_of s q j) c h)) (has_itself j can)))
      (λ h. eq-eqb (class_of s q j) c (ap (λ xs. get_or xs 0 0) (sym (same_class c j h)) ∙ names.1)))
      ∙ sym (class_is c)

  pub names_is_class : (c : ℕ) → Names c → Contains (classes_of s q) c
  names_is_class c names =
      Contains-filter (is_class s q) (scope_cells s q) c (subst (λ xs. Contains xs c) (sym scope_is) names.0)
      (list_all-from_AllPass (λ j. not (nat_lt j c)) (class_cells s q c) (All-from_Contains (λ j. not (nat_lt j c) ≡ true) (class_cells s q c) (λ j found.
      let first = first_is_least (class_cells s q c) j (ascends (class_cells s q c) (rises c)) found in
      let name = names.1 in
      not_from_false (nat_lt j c) (le-ltb j c (omega arith)))))

  pub class_names : (c : ℕ) → Contains (classes_of s q) c → Names c
  class_names c found =
      let can = subst (λ xs. Contains xs c) scope_is (Contains-unfiltered (is_class s q) (scope_cells s q) c found) in
      let least = All-contains (λ j. not (nat_lt j c) ≡ true) (class_cells s q c) (class_of s q c)
      (AllPass-from_list_all (λ j. not (nat_lt j c)) (class_cells s q c) (filter_holds (is_class s q) (scope_cells s q) c found)) (has_name c can) in
      let above = ltb-false (class_of s q c) c (not-true (nat_lt (class_of s q c) c) least) in
      let first = first_is_least (class_cells s q c) c (ascends (class_cells s q c) (rises c)) (has_itself c can) in
      (can, omega arith)

  -- ---- the sets with a cell are the classes

  pub named_rises : (c : ℕ) → IsStrictlyIncreasing (named_cells s q c)
  named_rises c = rw named_over_all (IsStrictlyIncreasing-filter (λ j. class_of s q j == c) possible (possible_rises s))

  pub set_is_class : (xs : List ℕ) → Contains (class_sets s q) xs → 1 ≤ length xs → Contains (map (class_cells s q) (classes_of s q)) xs
  set_is_class xs found some =
      let source = map_source (named_cells s q) (all_cells s) xs found in
      let c = source.0 in
      let there : Contains (filter (λ i. class_of s q i == c) possible) (get_or xs 0 0) =
      subst (λ ys. Contains ys (get_or xs 0 0)) (sym source.2 ∙ named_over_all c) (Contains-get_or xs 0 0 some) in
      let j = get_or xs 0 0 in
      let can = Contains-unfiltered (λ i. class_of s q i == c) possible j there in
      let is = eqb-true (class_of s q j) c (filter_holds (λ i. class_of s q i == c) possible j there) in
      let names = subst Names is (names_class j can) in
      subst (Contains (map (class_cells s q) (classes_of s q))) (sym (named_is c names) ∙ source.2) (Contains-map (class_cells s q) (classes_of s q) c (names_is_class c names))

  pub class_is_set : (xs : List ℕ) → Contains (map (class_cells s q) (classes_of s q)) xs → Contains (class_sets s q) xs × (1 ≤ length xs)
  class_is_set xs found =
      let source = map_source (class_cells s q) (classes_of s q) xs found in
      let c = source.0 in
      let names = class_names c source.1 in
      let below = passing_below (is_possible s) (cell_count s) c names.0 in
      let here = subst (λ ys. Contains ys c) source.2 (has_itself c names.0) in
      (subst (Contains (class_sets s q)) (named_is c names ∙ source.2) (Contains-map (named_cells s q) (all_cells s) c (Contains-range (cell_count s) c below)), omega (arith, here.1))
