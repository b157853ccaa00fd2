-- The groups of a level: the sets that are gathered, with a cell, each once and in order.
use Rattle.std.proofs.Common.{◌≡◌, ◌↔◌, ◌==◌, ℕ, suc, ◌+◌, ◌<◌, ◌≤◌, false, List, [], ◌∷◌, length, get_or, map, All, Contains, Option, Some, None, sym, ap, ◌∙◌, subst, arith, inl, inr}
use Rattle.std.specs.List.{AllPairs, range_with_len, flat_map}
use Rattle.std.specs.List.Sorted.{IsStrictlyIncreasing}
use Rattle.std.specs.Str.{bytes_eq}
use Rattle.std.proofs.lemmas.Bool.{cases_lt, cases_eq, eq-eqb, false_from_ne_true}
use Rattle.std.proofs.lemmas.List.{get_or_default}
use Rattle.std.proofs.lemmas.List.Elements.{All-contains, Contains-get_or, Contains-append_left, Contains-append_right, Contains-append_cases, recursion_from_All}
use Rattle.std.proofs.lemmas.List.FromFn.{length-range_with_len, get_or-range_with_len}
use Rattle.std.proofs.lemmas.List.Kept.{IsStrictlyIncreasing-filter}
use Rattle.std.proofs.lemmas.Option.{slice_get-get_or}
use Rattle.std.proofs.lemmas.Slice.Eq.{bytes_eq-Decides}
use Rattle.tda_model.specs.Schema.{Query, Level, Schema}
use Rattle.tda_model.specs.Cells.{cell_count, is_possible, kind_of, all_cells, possible_cells}
use Rattle.tda_model.specs.Groups.{class_cells, classes_of, kind_cells, kind_count, group_sets, group_count, LevelIsNested}
use Rattle.tda_model.specs.Bounds.{HasKinds}
use Rattle.tda_model.specs.Sizes.{groups_at}
use Rattle.tda_schema.specs.Stated.{level_at}
use Rattle.tda_sets.specs.Nested.{AreAllNested}
use Rattle.tda_sets.proofs.AllNested.{AreAllNested-from, nested_pair}
use Rattle.tda_sets.proofs.Members.{Contains-here, Contains-later, Contains-cases, Contains-passing, Contains-filter, Contains-unfiltered, passing_below, All-from_Contains, map_source, Contains-flat_map, flat_map_source}
use Rattle.tda_sets.proofs.Once.{AreDistinct, each_once-distinct, length-each_once-same}
use Rattle.tda_groups.specs.Sources.{named_cells, kind_sets, class_sets, source_sets}
use Rattle.tda_groups.specs.Order.{IsWithin, first_cell, ComesBefore, IsCellSet, group_at, AreGroups}
use Rattle.tda_groups.proofs.Ordering.{has_first, least, within_fits, not_before_itself}
use Rattle.tda_groups.proofs.Classes.{possible_rises, named_rises, member_possible, set_is_class, class_is_set}

distinct_from_pairs : (groups : List (List ℕ)) → AllPairs ComesBefore groups → AreDistinct groups
distinct_from_pairs [] pairs = tt
distinct_from_pairs (x ∷ xs) pairs = (
  recursion_from_All (λ y. bytes_eq x y ≡ false) xs (λ k d below.
      let y = get_or xs k d in
      false_from_ne_true (bytes_eq x y) (λ e. not_before_itself y (subst (λ z. ComesBefore z y) ((bytes_eq-Decides x y).0 e) (pairs 0 (suc k) d (omega arith) (omega arith))))),
  distinct_from_pairs xs (λ i j d low high. pairs (suc i) (suc j) d (omega arith) (omega arith)),
)

module _ (s : Schema) (l : Level) (has_kinds : HasKinds s) (over_all : All (λ q. q.only ≡ []) l.queries) where
  abbrev possible : List ℕ
  possible = possible_cells s

  abbrev plain : List (List ℕ)
  plain = possible ∷ kind_sets s

  abbrev classes : Query → List (List ℕ)
  classes q = map (class_cells s q) (classes_of s q)

  open_query : (q : Query) → Contains l.queries q → q.only ≡ []
  open_query q found = All-contains (λ x. x.only ≡ []) l.queries q over_all found

  range_below : (n k : ℕ) → Contains (range_with_len 0 n) k → k < n
  range_below n k found =
      let below : found.0 < n = omega (arith, found.1, length-range_with_len 0 n) in
      let is : get_or (range_with_len 0 n) found.0 k ≡ 0 + found.0 = get_or-range_with_len 0 n found.0 k below in
      omega (arith, found.2)

  kind_some : (k : ℕ) → k < kind_count s → 1 ≤ length (kind_cells s k)
  kind_some k below =
      let cell = has_kinds.cell k below in
      let can = Contains-passing (is_possible s) (cell_count s) cell.0 cell.1 cell.2 in
      let found = Contains-filter (λ j. kind_of s j == k) possible cell.0 can (eq-eqb (kind_of s cell.0) k cell.3) in
      omega (arith, found.1)

  possible_some : 1 ≤ length possible
  possible_some =
      let cell = has_kinds.cell 0 (omega (arith, has_kinds.some)) in
      let can = Contains-passing (is_possible s) (cell_count s) cell.0 cell.1 cell.2 in
      omega (arith, can.1)

  plain_some : (xs : List ℕ) → Contains plain xs → 1 ≤ length xs
  plain_some xs found =
      elim (Contains-cases possible (kind_sets s) xs found) [
        | inl here ↦ subst (λ ys. 1 ≤ length ys) here possible_some
        | inr later ↦
            let source = map_source (kind_cells s) (range_with_len 0 (kind_count s)) xs later in
            subst (λ ys. 1 ≤ length ys) source.2 (kind_some source.0 (range_below (kind_count s) source.0 source.1))
      ]

  pub source_is_group : (xs : List ℕ) → Contains (source_sets s l) xs → 1 ≤ length xs → Contains (group_sets s l) xs
  source_is_group xs found some =
      elim (Contains-append_cases plain (flat_map (class_sets s) l.queries) xs found) [
        | inl first ↦ Contains-append_left plain (flat_map classes l.queries) xs first
        | inr later ↦
            let source = flat_map_source (class_sets s) l.queries xs later in
            let q = source.0 in
            Contains-append_right plain (flat_map classes l.queries) xs
            (Contains-flat_map classes l.queries q xs source.1 (set_is_class s q (open_query q source.1) xs source.2 some))
      ]

  pub group_is_source : (xs : List ℕ) → Contains (group_sets s l) xs → Contains (source_sets s l) xs × (1 ≤ length xs)
  group_is_source xs found =
      elim (Contains-append_cases plain (flat_map classes l.queries) xs found) [
        | inl first ↦ (Contains-append_left plain (flat_map (class_sets s) l.queries) xs first, plain_some xs first)
        | inr later ↦
            let source = flat_map_source classes l.queries xs later in
            let q = source.0 in
            let set = class_is_set s q (open_query q source.1) xs source.2 in
            (Contains-append_right plain (flat_map (class_sets s) l.queries) xs (Contains-flat_map (class_sets s) l.queries q xs source.1 set.0), set.1)
      ]

  plain_rises : (xs : List ℕ) → Contains plain xs → IsStrictlyIncreasing xs
  plain_rises xs found =
      elim (Contains-cases possible (kind_sets s) xs found) [
        | inl here ↦ subst IsStrictlyIncreasing here (possible_rises s)
        | inr later ↦
            let source = map_source (kind_cells s) (range_with_len 0 (kind_count s)) xs later in
            subst IsStrictlyIncreasing source.2 (IsStrictlyIncreasing-filter (λ j. kind_of s j == source.0) possible (possible_rises s))
      ]

  pub sources_rise : All IsStrictlyIncreasing (source_sets s l)
  sources_rise = All-from_Contains IsStrictlyIncreasing (source_sets s l) (λ xs found.
      elim (Contains-append_cases plain (flat_map (class_sets s) l.queries) xs found) [
        | inl first ↦ plain_rises xs first
        | inr later ↦
            let source = flat_map_source (class_sets s) l.queries xs later in
            let q = source.0 in
            let named = map_source (named_cells s q) (all_cells s) xs source.2 in
            subst IsStrictlyIncreasing named.2 (named_rises s q (open_query q source.1) named.0)
      ])

  pub sources_nested : LevelIsNested s l → AreAllNested (source_sets s l) (source_sets s l)
  sources_nested nested = AreAllNested-from (source_sets s l) (source_sets s l) (λ xs ys here there.
      elim (cases_lt 0 (length xs)) [
        | inr none ↦ inl (λ k d below. absurd (omega arith))
        | inl some ↦
            elim (cases_lt 0 (length ys)) [
              | inr none ↦ inl (λ k d below among. omega (arith, among.1))
              | inl more ↦ nested_pair (group_sets s l) (group_sets s l) nested xs ys (source_is_group xs here some) (source_is_group ys there more)
            ]
      ])

  -- each cell of a group is possible
  pub member : (xs : List ℕ) (z : ℕ) → Contains (group_sets s l) xs → Contains xs z → Contains possible z
  member xs z found among =
      elim (Contains-append_cases plain (flat_map classes l.queries) xs found) [
        | inl first ↦
            elim (Contains-cases possible (kind_sets s) xs first) [
              | inl here ↦ subst (λ ys. Contains ys z) (sym here) among
              | inr later ↦
                  let source = map_source (kind_cells s) (range_with_len 0 (kind_count s)) xs later in
                  Contains-unfiltered (λ j. kind_of s j == source.0) possible z (subst (λ ys. Contains ys z) (sym source.2) among)
            ]
        | inr later ↦
            let source = flat_map_source classes l.queries xs later in
            let q = source.0 in
            let class = map_source (class_cells s q) (classes_of s q) xs source.2 in
            member_possible s q (open_query q source.1) class.0 z (subst (λ ys. Contains ys z) (sym class.2) among)
      ]

  module _ (nested : LevelIsNested s l) (groups : List (List ℕ)) (sets : All IsCellSet groups) (ordered : AllPairs ComesBefore groups)
      (gathered : (xs : List ℕ) → Contains groups xs ↔ (Contains (source_sets s l) xs × (1 ≤ length xs))) where
    pub exact : (xs : List ℕ) → Contains groups xs ↔ Contains (group_sets s l) xs
    exact xs = (
      λ found. let source = (gathered xs).0 found in source_is_group xs source.0 source.1,
      λ found. (gathered xs).1 (group_is_source xs found),
    )

    pub count : length groups ≡ group_count s l
    count = ap length (sym (each_once-distinct groups (distinct_from_pairs groups ordered))) ∙ length-each_once-same groups (group_sets s l) (λ xs. (exact xs).0) (λ xs. (exact xs).1)

    whole_found : Contains groups possible
    whole_found = (exact possible).1 (Contains-append_left plain (flat_map classes l.queries) possible (Contains-here possible (kind_sets s)))

    within_whole : (g : ℕ) → g < length groups → IsWithin (group_at groups g) possible
    within_whole g below = All-from_Contains (Contains possible) (group_at groups g) (λ z among. member (group_at groups g) z ((exact (group_at groups g)).0 (Contains-get_or groups g [] below)) among)

    pub whole_is : group_at groups 0 ≡ possible
    whole_is =
        let t = whole_found.0 in
        let is : group_at groups t ≡ possible = get_or_default groups t [] possible whole_found.1 ∙ whole_found.2 in
        elim (cases_eq t 0) [
          | inl e ↦ ap (group_at groups) (sym e) ∙ is
          | inr ne ↦
              let some : 0 < length groups = omega (arith, whole_found.1) in
              let one = sets 0 [] some in
              let other = subst IsCellSet is (sets t [] whole_found.1) in
              let within = within_whole 0 some in
              let small = (within_fits (group_at groups 0) possible one other within).size in
              let low = least possible (first_cell (group_at groups 0)) other (All-contains (Contains possible) (group_at groups 0) (first_cell (group_at groups 0)) within (has_first (group_at groups 0) one)) in
              absurd (elim (subst (ComesBefore (group_at groups 0)) is (ordered 0 t [] (omega arith) whole_found.1)) [
                | inl less ↦ omega arith
                | inr larger ↦ omega (arith, larger.1)
              ])
        ]

    pub are_groups : AreGroups groups
    are_groups = record {
      some = omega (arith, whole_found.1);
      sets = sets;
      ordered = ordered;
      nested = AreAllNested-from groups groups (λ xs ys here there. nested_pair (group_sets s l) (group_sets s l) nested xs ys ((exact xs).0 here) ((exact ys).0 there));
      whole = All-from_Contains (λ xs. IsWithin xs (group_at groups 0)) groups (λ xs found.
          rw whole_is (All-from_Contains (Contains possible) xs (λ z among. member xs z ((exact xs).0 found) among)));
    }

    pub cells_below : All (λ xs. All (λ j. j < cell_count s) xs) groups
    cells_below = All-from_Contains (λ xs. All (λ j. j < cell_count s) xs) groups (λ xs found.
        All-from_Contains (λ j. j < cell_count s) xs (λ z among. passing_below (is_possible s) (cell_count s) z (member xs z ((exact xs).0 found) among)))

    pub kinds_found : All (λ xs. 1 ≤ length xs → Contains groups xs) (kind_sets s)
    kinds_found = All-from_Contains (λ xs. 1 ≤ length xs → Contains groups xs) (kind_sets s) (λ xs found some.
        (gathered xs).1 (Contains-append_left plain (flat_map (class_sets s) l.queries) xs (Contains-later possible (kind_sets s) xs found), some))

    pub classes_found : All (λ q. All (λ xs. 1 ≤ length xs → Contains groups xs) (class_sets s q)) l.queries
    classes_found = All-from_Contains (λ q. All (λ xs. 1 ≤ length xs → Contains groups xs) (class_sets s q)) l.queries (λ q query.
        All-from_Contains (λ xs. 1 ≤ length xs → Contains groups xs) (class_sets s q) (λ xs found some.
        (gathered xs).1 (Contains-append_right plain (flat_map (class_sets s) l.queries) xs (Contains-flat_map (class_sets s) l.queries q xs query found), some)))

-- the number of groups that a schema tells is that of the level
abbrev pick : Schema → Option Level → ℕ
pick s o = elim o [ Some l ↦ group_count s l | None ↦ 0 ]

pub groups_is : (s : Schema) (level : ℕ) → level < length s.levels → groups_at s level ≡ group_count s (level_at s level)
groups_is s level below = ap (pick s) (slice_get-get_or s.levels level (record { name = []; queries = [] }) below)
