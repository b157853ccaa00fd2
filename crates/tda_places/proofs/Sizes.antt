-- How many places there are.
use Rattle.std.proofs.Common.{◌≡◌, ℕ, suc, ◌+◌, ◌*◌, ◌<◌, ◌≤◌, ◌^◌, Bool, true, false, cond, eqb, List, [], ◌∷◌, length, get_or, take, map, filter, sum_by, Option, Some, None, refl, sym, ap, ◌∙◌, inl, inr, arith}
use Rattle.std.specs.Prelude.{slice_get}
use Rattle.std.specs.List.{flat_map, range_with_len}
use Rattle.std.proofs.Math.Nat.{mul-le-mul}
use Rattle.std.proofs.lemmas.Bool.{cases_eq, cases_lt, eq-eqb, ne_eqb}
use Rattle.std.proofs.lemmas.List.{get_or_past, length-map}
use Rattle.std.proofs.lemmas.List.Concat.{length-flat_map}
use Rattle.std.proofs.lemmas.List.FromFn.{length-range_with_len}
use Rattle.std.proofs.lemmas.List.Sums.{length-filter, count_by-le-length, sum_by-cons}
use Rattle.std.proofs.lemmas.Option.{slice_get-get_or, slice_get_past}
use Rattle.tda_model.specs.Schema.{Level, Query, Schema}
use Rattle.tda_model.specs.Cells.{all_cells, cell_count, is_listed, is_possible, possible_cells}
use Rattle.tda_model.specs.Groups.{classes_of, is_class, scope_cells}
use Rattle.tda_model.specs.Sizes.{place_count, places_at}
use Rattle.tda_model.specs.Spine.{Spine, is_at, level_of, unit_numbers, units_at}
use Rattle.tda_model.proofs.Sums.{Each, each_range, sum_by_index, sum_filter, sum_one, sum_same, sum_swap}
use Rattle.tda_spine.specs.Sound.{IsSound}
use Rattle.tda_schema.specs.Stated.{level_at, queries_at, query_at}
use Rattle.tda_places.specs.Places.{level_places, level_numbers, places_of, query_numbers, query_places, unit_places}
use Rattle.tda_places.specs.Spots.{before_level, before_query, class_count, level_size}
use Rattle.tda_places.proofs.Nested.{same_sums, sum_even}

kept_le : {X : Type 0} (p : X → Bool) (xs : List X) → length (filter p xs) ≤ length xs
kept_le p xs = omega (arith, length-filter p xs, count_by-le-length p xs)

-- ---- classes

pub few_classes : (s : Schema) (q : Query) → length (classes_of s q) ≤ cell_count s
few_classes s q =
    let classes = kept_le (is_class s q) (scope_cells s q) in
    let scope = kept_le (is_listed s q.only) (possible_cells s) in
    let possible = kept_le (is_possible s) (all_cells s) in
    let all = length-range_with_len 0 (cell_count s) in
    omega arith

-- a product of two numbers that are not too large
pub few_product : (a b m n : ℕ) → a ≤ m → b ≤ n → a * b ≤ m * n
few_product a b m n le_a le_b = mul-le-mul le_a le_b

sum_within : {X : Type 0} (f : X → ℕ) (most : ℕ) (xs : List X) → ((x : X) → f x ≤ most) → sum_by f xs ≤ length xs * most
sum_within f most [] within = omega arith
sum_within f most (x ∷ xs) within = omega (arith, sum_by-cons f x xs, sum_within f most xs within, within x)

pub few_before : (s : Schema) (level query : ℕ) → before_query s level query ≤ query * cell_count s
few_before s level query =
    let within = sum_within (class_count s level) (cell_count s) (range_with_len 0 query) (λ q. few_classes s (query_at s level q)) in
    let long = length-range_with_len 0 query in
    rw long at within

module _ (s : Schema) (level : ℕ) where
  abbrev size_of : Level → ℕ
  size_of l = sum_by (λ q. length (classes_of s q)) l.queries

  abbrev none : Level
  none = record { name = []; queries = [] }

  -- the places of each unit, by the level
  pub places_are : places_at s level ≡ size_of (level_at s level)
  places_are = elim (cases_lt level (length s.levels)) [
    | inl below ↦ by (slice_get-get_or s.levels level none below)
    | inr past ↦ by (slice_get_past s.levels level past) ∙ sym (ap size_of (get_or_past s.levels level none past))
  ]
    where
      by : {o : Option Level} → slice_get s.levels level ≡ o → places_at s level ≡ elim o as (λ _. ℕ) [ Some l ↦ size_of l | None ↦ 0 ]
      by e = ap (λ o. elim o as (λ _. ℕ) [ Some l ↦ size_of l | None ↦ 0 ]) e

  pub before_all : before_query s level (length (queries_at s level)) ≡ places_at s level
  before_all =
      sym (sum_by_index (λ q. length (classes_of s q)) (queries_at s level) (record { name = []; by = []; only = []; share = record { num = 0; den = 1 } }))
      ∙ sym places_are

  pub few_places : places_at s level ≤ length (queries_at s level) * cell_count s
  few_places = omega (arith, before_all, few_before s level (length (queries_at s level)))

  pub unit_size : (u : ℕ) → length (unit_places s level u) ≡ places_at s level
  unit_size u =
      length-flat_map (query_places s level u) (query_numbers s level)
      ∙ same_sums _ (class_count s level) (query_numbers s level) (λ q. length-map (classes_of s (query_at s level q)) _)
      ∙ before_all

  module _ (sp : Spine) where
    pub level_is : length (level_places s sp level) ≡ level_size s sp level
    level_is =
        length-flat_map (unit_places s level) (units_at sp level)
        ∙ sum_even (λ u. length (unit_places s level u)) (places_at s level) (units_at sp level) unit_size

module _ (s : Schema) (sp : Spine) where
  pub all_are : length (places_of s sp) ≡ before_level s sp (length s.levels)
  all_are =
      length-flat_map (level_places s sp) (level_numbers s)
      ∙ same_sums _ (level_size s sp) (level_numbers s) (λ l. level_is s l sp)

  -- the sum over units in file order
  pub count_is : IsSound sp → sp.depth ≡ length s.levels → length (places_of s sp) ≡ place_count s sp
  count_is sound belong =
      all_are
      ∙ ap (before_level s sp) (sym belong)
      ∙ same_sums (level_size s sp) (λ l. sum_by (λ u. cond (eqb (level_of sp u) l) (places_at s l) 0) (unit_numbers sp)) (range_with_len 0 sp.depth) at_level
      ∙ sum_swap (λ l u. cond (eqb (level_of sp u) l) (places_at s l) 0) (range_with_len 0 sp.depth) (unit_numbers sp)
      ∙ sum_same _ (λ u. places_at s (level_of sp u)) (unit_numbers sp) (each_range _ 0 (length sp.units) at_unit)
    where
      at_level : (l : ℕ) → level_size s sp l ≡ sum_by (λ u. cond (eqb (level_of sp u) l) (places_at s l) 0) (unit_numbers sp)
      at_level l =
          sym (sum_even (λ u. places_at s l) (places_at s l) (units_at sp l) (λ u. refl))
          ∙ sum_filter (λ u. places_at s l) (is_at sp l) (unit_numbers sp)

      turned : (l m : ℕ) → cond (eqb m l) (places_at s l) 0 ≡ cond (eqb l m) (places_at s l) 0
      turned l m = elim (cases_eq l m) [
        | inl same ↦ rw (eq-eqb l m same, eq-eqb m l (sym same)) refl
        | inr other ↦ rw (ne_eqb l m other, ne_eqb m l (λ e. other (sym e))) refl
      ]

      at_unit : (u : ℕ) → 0 ≤ u → u < 0 + length sp.units → sum_by (λ l. cond (eqb (level_of sp u) l) (places_at s l) 0) (range_with_len 0 sp.depth) ≡ places_at s (level_of sp u)
      at_unit u low high =
          same_sums _ (λ l. cond (eqb l (level_of sp u)) (places_at s l) 0) (range_with_len 0 sp.depth) (λ l. turned l (level_of sp u))
          ∙ sum_one (places_at s) (level_of sp u) 0 sp.depth (omega arith) (omega (arith, sound.tree.within u (omega arith)))
