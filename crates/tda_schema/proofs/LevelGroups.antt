-- The groups of a level are the sets of its families.
use Rattle.std.proofs.Common.{◌≡◌, ◌↔◌, ◌==◌, ◌⊎◌, ℕ, ◌<◌, Bool, true, List, [], ◌∷◌, ◌++◌, length, map, filter, Contains, Some, None, slice_get, IsTrue, refl, sym, ap, ◌∙◌, subst, arith, inl, inr}
use Rattle.std.specs.Cmp.{IsEquivalence, on_equiv, nat_eq_equiv}
use Rattle.std.specs.List.{range_with_len, flat_map}
use Rattle.std.proofs.lemmas.Bool.{eqb-true}
use Rattle.std.proofs.lemmas.Bool.Decides.{same_from_decides}
use Rattle.std.proofs.lemmas.List.Elements.{All-nil, All-weaker, recursion_from_All, filter_agree, Contains-append_left, Contains-append_right, Contains-append_cases}
use Rattle.std.proofs.lemmas.List.FromFn.{length-range_with_len, get_or-range_with_len}
use Rattle.tda_model.specs.Schema.{Attribute, Query, Level, Schema}
use Rattle.tda_model.specs.Cells.{cell_count, is_possible, kind_of, possible_cells}
use Rattle.tda_model.specs.Groups.{kind_count, class_cells, classes_of, kind_cells, group_sets, group_count, each_once, LevelIsNested}
use Rattle.tda_model.specs.Bounds.{HasKinds}
use Rattle.tda_model.proofs.Sums.{Each, each_any}
use Rattle.tda_sets.specs.Family.{sets_of}
use Rattle.tda_sets.specs.Nested.{AreAllNested, all_sets}
use Rattle.tda_sets.proofs.Ranges.{filter_all}
use Rattle.tda_sets.proofs.Members.{Contains-here, Contains-later, Contains-cases, Contains-unfiltered, filter_holds, Contains-passing, passing_holds, passing_below, map_source, Contains-map, Contains-range}
use Rattle.tda_sets.proofs.AllNested.{AreAllNested-from, AreAllNested-fewer, nested_pair}
use Rattle.tda_sets.proofs.Once.{length-each_once-same}
use Rattle.tda_schema.specs.Classes.{whole_family, kind_family, query_family, level_families}
use Rattle.tda_schema.specs.Parts.{level_is_nested}
use Rattle.tda_schema.specs.Readers.{values_of, IsWithinLimits}
use Rattle.tda_schema.specs.Stated.{IsQueryOf, IsLevelOf}
use Rattle.tda_schema.proofs.ColumnLemmas.{value_at_below}
use Rattle.tda_schema.proofs.Grouped.{set_from, set_tells}
use Rattle.tda_schema.proofs.PartTests.{level_is_nested-Decides}
use Rattle.tda_schema.proofs.QueryGroups.{query_sets}

some_or_none : (xs : List ℕ) → (xs ≡ []) ⊎ ((x : ℕ) × Contains xs x)
some_or_none [] = inl refl
some_or_none (x ∷ xs) = inr (x, Contains-here x xs)

in_range : (n k : ℕ) → Contains (range_with_len 0 n) k → k < n
in_range n k found =
    let below : found.0 < n = omega (arith, found.1, length-range_with_len 0 n) in
    omega (arith, found.2, get_or-range_with_len 0 n found.0 k below)

all_equiv : IsEquivalence {K = ℕ} (λ i j. true)
all_equiv = record { refl = λ i. refl; symm = λ i j. refl; congr = λ i j k e. refl }

module _ (s : Schema) where
  kinds_in : (attributes : List Attribute) → length {A = List ℕ} (elim (slice_get attributes 0) [ Some x ↦ x.values | None ↦ [] ]) ≡ elim attributes [ a ∷ rest ↦ length a.values | [] ↦ 0 ]
  kinds_in [] = refl
  kinds_in (a ∷ rest) = refl

  pub kind_count_is : length (values_of s 0) ≡ kind_count s
  kind_count_is = kinds_in s.attributes

  pub kind_below : IsWithinLimits s → (cell : ℕ) → kind_of s cell < kind_count s
  kind_below limits cell = omega (arith, value_at_below s 0 limits.some_attribute limits cell, kind_count_is)

  same_kind : IsEquivalence (λ i j. kind_of s i == kind_of s j)
  same_kind = on_equiv (kind_of s) nat_eq_equiv

  of_its_kind : (cell : ℕ) → filter (λ j. kind_of s cell == kind_of s j) (possible_cells s) ≡ kind_cells s (kind_of s cell)
  of_its_kind cell = filter_agree (λ j. kind_of s cell == kind_of s j) (λ j. kind_of s j == kind_of s cell) (λ j. nat_eq_equiv.symm (kind_of s cell) (kind_of s j)) (possible_cells s)

  all_cells_kept : filter (λ j. true) (possible_cells s) ≡ possible_cells s
  all_cells_kept = filter_all (λ j. true) (possible_cells s) (each_any (λ j. true ≡ true) (possible_cells s) (λ j. refl))

  -- the set of all possible cells
  module _ (cell : ℕ) (possible : Contains (possible_cells s) cell) where
    below : cell < cell_count s
    below = passing_below (is_possible s) (cell_count s) cell possible

    so : is_possible s cell ≡ true
    so = passing_holds (is_possible s) (cell_count s) cell possible

    whole_found : Contains (sets_of (whole_family s)) (possible_cells s)
    whole_found = subst (λ xs. Contains (sets_of (whole_family s)) xs) all_cells_kept (set_from (cell_count s) (is_possible s) (λ i j. true) all_equiv cell below so)

    kind_found : Contains (sets_of (kind_family s)) (kind_cells s (kind_of s cell))
    kind_found =
        subst (λ xs. Contains (sets_of (kind_family s)) xs) (of_its_kind cell)
        (set_from (cell_count s) (is_possible s) (λ i j. kind_of s i == kind_of s j) same_kind cell below so)

  whole_tells : (xs : List ℕ) → Contains (sets_of (whole_family s)) xs → possible_cells s ≡ xs
  whole_tells xs found =
      let t = set_tells (cell_count s) (is_possible s) (λ i j. true) all_equiv xs found in
      sym all_cells_kept ∙ t.3

  kind_tells : IsWithinLimits s → (xs : List ℕ) → Contains (sets_of (kind_family s)) xs → Contains (map (kind_cells s) (range_with_len 0 (kind_count s))) xs
  kind_tells limits xs found =
      let t = set_tells (cell_count s) (is_possible s) (λ i j. kind_of s i == kind_of s j) same_kind xs found in
      let kinds = range_with_len 0 (kind_count s) in
      subst (λ ys. Contains (map (kind_cells s) kinds) ys) (sym (of_its_kind t.0) ∙ t.3)
      (Contains-map (kind_cells s) kinds (kind_of s t.0) (Contains-range (kind_count s) (kind_of s t.0) (kind_below limits t.0)))

  classes : (qs : List Query) → Each (λ q. q.only ≡ []) qs → all_sets (map (query_family s) qs) ≡ flat_map (λ q. map (class_cells s q) (classes_of s q)) qs
  classes [] h = refl
  classes (q ∷ qs) h =
      ap (λ xss. xss ++ all_sets (map (query_family s) qs)) (query_sets s q h.0) ∙ ap (λ xss. map (class_cells s q) (classes_of s q) ++ xss) (classes qs h.1)

-- a level of a schema
module _ (s : Schema) (limits : IsWithinLimits s) (l : Level) (level : IsLevelOf s l) where
  abbrev families : List (List ℕ)
  families = all_sets (level_families s l)

  abbrev class_sets : List (List ℕ)
  class_sets = flat_map (λ q. map (class_cells s q) (classes_of s q)) l.queries

  abbrev kind_sets : List (List ℕ)
  kind_sets = map (kind_cells s) (range_with_len 0 (kind_count s))

  families_are : families ≡ sets_of (whole_family s) ++ (sets_of (kind_family s) ++ class_sets)
  families_are =
      ap (λ xss. sets_of (whole_family s) ++ (sets_of (kind_family s) ++ xss))
      (classes s l.queries (recursion_from_All (λ q. q.only ≡ []) l.queries (All-weaker (IsQueryOf s) (λ q. q.only ≡ []) (λ q h. h.only) l.queries level.queries)))

  pub to_groups : (xs : List ℕ) → Contains families xs → Contains (group_sets s l) xs
  to_groups xs found =
      let rest = kind_sets ++ class_sets in
      elim (Contains-append_cases (sets_of (whole_family s)) (sets_of (kind_family s) ++ class_sets) xs (subst (λ xss. Contains xss xs) families_are found)) [
        | inl whole ↦ subst (λ ys. Contains (possible_cells s ∷ rest) ys) (whole_tells s xs whole) (Contains-here (possible_cells s) rest)
        | inr parts ↦ Contains-later (possible_cells s) rest xs (elim (Contains-append_cases (sets_of (kind_family s)) class_sets xs parts) [
          | inl kind ↦ Contains-append_left kind_sets class_sets xs (kind_tells s limits xs kind)
          | inr class ↦ Contains-append_right kind_sets class_sets xs class
        ])
      ]

  -- a group is all possible cells, or those of a kind, or a set of a family
  module _ (P : Type 0) (xs : List ℕ) (whole : possible_cells s ≡ xs → P) (kind : (k : ℕ) → k < kind_count s → kind_cells s k ≡ xs → P) (among : Contains families xs → P) where
    group_cases : Contains (group_sets s l) xs → P
    group_cases found =
        elim (Contains-cases (possible_cells s) (kind_sets ++ class_sets) xs found) [
          | inl here ↦ whole here
          | inr later ↦ elim (Contains-append_cases kind_sets class_sets xs later) [
            | inl k ↦
                let source = map_source (kind_cells s) (range_with_len 0 (kind_count s)) xs k in
                kind source.0 (in_range (kind_count s) source.0 source.1) source.2
            | inr class ↦
                among (rw families_are (Contains-append_right (sets_of (whole_family s)) (sets_of (kind_family s) ++ class_sets) xs
                (Contains-append_right (sets_of (kind_family s)) class_sets xs class)))
          ]
        ]

  whole_among : (cell : ℕ) → Contains (possible_cells s) cell → Contains families (possible_cells s)
  whole_among cell possible =
      rw families_are (Contains-append_left (sets_of (whole_family s)) (sets_of (kind_family s) ++ class_sets) (possible_cells s) (whole_found s cell possible))

  kind_among : (k cell : ℕ) → Contains (kind_cells s k) cell → Contains families (kind_cells s k)
  kind_among k cell found =
      let possible : Contains (possible_cells s) cell = Contains-unfiltered (λ j. kind_of s j == k) (possible_cells s) cell found in
      let is : kind_of s cell ≡ k = eqb-true (kind_of s cell) k (filter_holds (λ j. kind_of s j == k) (possible_cells s) cell found) in
      subst (λ kind. Contains families (kind_cells s kind)) is
      (rw families_are (Contains-append_right (sets_of (whole_family s)) (sets_of (kind_family s) ++ class_sets) (kind_cells s (kind_of s cell))
      (Contains-append_left (sets_of (kind_family s)) class_sets (kind_cells s (kind_of s cell)) (kind_found s cell possible))))

  -- each group with a cell is a set of a family
  pub from_groups : (xs : List ℕ) → Contains (group_sets s l) xs → (xs ≡ []) ⊎ Contains families xs
  from_groups xs =
      group_cases ((xs ≡ []) ⊎ Contains families xs) xs
      (λ e. elim (some_or_none (possible_cells s)) [
        | inl none ↦ inl (sym e ∙ none)
        | inr some ↦ inr (subst (λ ys. Contains families ys) e (whole_among some.0 some.1))
      ])
      (λ k below e. elim (some_or_none (kind_cells s k)) [
        | inl none ↦ inl (sym e ∙ none)
        | inr some ↦ inr (subst (λ ys. Contains families ys) e (kind_among k some.0 some.1))
      ])
      (λ found. inr found)

  -- where each kind has a possible cell each group has one
  module _ (kinds : HasKinds s) where
    a_cell : (k : ℕ) → k < kind_count s → (cell : ℕ) × Contains (possible_cells s) cell × (kind_of s cell ≡ k)
    a_cell k below = let c = kinds.cell k below in (c.0, Contains-passing (is_possible s) (cell_count s) c.0 c.1 c.2, c.3)

    pub all_from_groups : (xs : List ℕ) → Contains (group_sets s l) xs → Contains families xs
    all_from_groups xs =
        group_cases (Contains families xs) xs
        (λ e. let c = a_cell 0 kinds.some in subst (λ ys. Contains families ys) e (whole_among c.0 c.1))
        (λ k below e.
        let c = a_cell k below in
        subst (λ ys. Contains families ys) (ap (kind_cells s) c.2 ∙ e)
        (rw families_are (Contains-append_right (sets_of (whole_family s)) (sets_of (kind_family s) ++ class_sets) (kind_cells s (kind_of s c.0))
        (Contains-append_left (sets_of (kind_family s)) class_sets (kind_cells s (kind_of s c.0)) (kind_found s c.0 c.1)))))
        (λ found. found)

    pub group_count_is : length (each_once families) ≡ group_count s l
    group_count_is = length-each_once-same families (group_sets s l) to_groups all_from_groups

  -- a set with no cell is nested with each
  pub level_nested : AreAllNested families families ↔ LevelIsNested s l
  level_nested = (groups, AreAllNested-fewer (group_sets s l) (group_sets s l) families families to_groups to_groups)
    where
      groups : AreAllNested families families → LevelIsNested s l
      groups nested = AreAllNested-from (group_sets s l) (group_sets s l) (λ xs ys here there.
          elim (from_groups xs here) [
            | inl none ↦ inl (rw none (All-nil (λ x. Contains ys x → ⊥)))
            | inr x ↦ elim (from_groups ys there) [
              | inl none ↦ inr (inr (rw none (All-nil (Contains xs))))
              | inr y ↦ nested_pair families families nested xs ys x y
            ]
          ])

  pub level_nested_is : (b : Bool) → (IsTrue b ↔ AreAllNested families families) → b ≡ level_is_nested s l
  level_nested_is b h =
      same_from_decides b (level_is_nested s l) ((λ e. level_nested.0 (h.0 e)), (λ nested. h.1 (level_nested.1 nested))) (level_is_nested-Decides s l)
