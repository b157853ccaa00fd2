-- The place at an index, and the index of a place.
use Rattle.std.proofs.Common.{◌≡◌, ◌≢◌, ℕ, suc, ◌+◌, ◌*◌, ◌<◌, ◌≤◌, ◌&&◌, ◌==◌, Bool, true, false, List, [], length, get_or, take, map, sum_by, Some, None, Contains, position, nat_lt, refl, sym, ap, ◌∙◌, inl, inr, arith}
use Rattle.std.specs.Prelude.{slice_get}
use Rattle.std.specs.List.{flat_map, position_or_len, range_with_len}
use Rattle.std.proofs.lemmas.Bool.{cases_Bool, cases_lt, eq-eqb, eqb-true, lt-ltb}
use Rattle.std.proofs.lemmas.List.{get_or_default, get_or-map, length-map, length-take-le}
use Rattle.std.proofs.lemmas.List.Elements.{filter_passes, All-filter, All-from_get_or}
use Rattle.std.proofs.lemmas.List.FromFn.{length-range_with_len}
use Rattle.std.proofs.lemmas.List.Sums.{position_or_len_is}
use Rattle.std.proofs.lemmas.Nat.{mul-add-lt}
use Rattle.std.proofs.lemmas.Option.{slice_get-get_or}
use Rattle.tda_model.specs.Schema.{Schema}
use Rattle.tda_model.specs.Groups.{classes_of}
use Rattle.tda_model.specs.Sizes.{places_at}
use Rattle.tda_model.specs.Spine.{Spine, IsUnit, is_at, level_of, unit_numbers, units_at}
use Rattle.tda_schema.specs.Stated.{queries_at, query_at}
use Rattle.tda_places.specs.Places.{index_of, is_place, level_numbers, level_places, place, places_of, query_numbers, query_places, unit_places, IsPlace}
use Rattle.tda_places.specs.Spots.{before_level, before_query, class_count, level_size, place_of, StandsAt}
use Rattle.tda_places.specs.declared.place.Place.{Place}
use Rattle.tda_places.specs.declared.spot.Spot.{Spot}
use Rattle.tda_places.proofs.Nested.{falls, in_all, range_at, same_sums, stands, sum_even, take_range, IsIn}
use Rattle.tda_places.proofs.Sizes.{level_is, unit_size}

abbrev pub nowhere : Place
nowhere = record { unit = 0; query = 0; class = 0 }

module _ (s : Schema) (sp : Spine) where
  -- ---- the parts that come before
  queries_before : (level u q : ℕ) → q ≤ length (queries_at s level) → sum_by (λ x. length (query_places s level u x)) (take q (query_numbers s level)) ≡ before_query s level q
  queries_before level u q within =
      ap (sum_by (λ x. length (query_places s level u x))) (take_range q (length (queries_at s level)) within)
      ∙ same_sums _ (class_count s level) (range_with_len 0 q) (λ x. length-map (classes_of s (query_at s level x)) _)

  units_before : (level k : ℕ) → k ≤ length (units_at sp level) → sum_by (λ u. length (unit_places s level u)) (take k (units_at sp level)) ≡ k * places_at s level
  units_before level k within =
      sum_even _ (places_at s level) (take k (units_at sp level)) (unit_size s level)
      ∙ ap (λ n. n * places_at s level) (length-take-le k (units_at sp level) within)

  levels_before : (l : ℕ) → l ≤ length s.levels → sum_by (λ x. length (level_places s sp x)) (take l (level_numbers s)) ≡ before_level s sp l
  levels_before l within =
      ap (sum_by (λ x. length (level_places s sp x))) (take_range l (length s.levels) within)
      ∙ same_sums _ (level_size s sp) (range_with_len 0 l) (λ x. level_is s x sp)

  -- ---- from where it stands to the place
  module _ (index : ℕ) (spot : Spot) (at : StandsAt s sp index spot) where
    abbrev in_unit : ℕ
    in_unit = before_query s spot.level spot.query + spot.class

    abbrev in_level : ℕ
    in_level = spot.unit * places_at s spot.level + in_unit

    abbrev unit_at : ℕ
    unit_at = get_or (units_at sp spot.level) spot.unit 0

    query_there : get_or (query_numbers s spot.level) spot.query 0 ≡ spot.query
    query_there = range_at (length (queries_at s spot.level)) spot.query 0 at.query

    level_there : get_or (level_numbers s) spot.level 0 ≡ spot.level
    level_there = range_at (length s.levels) spot.level 0 at.level

    is_query : IsIn (query_places s spot.level unit_at) (query_numbers s spot.level) 0 in_unit spot.query spot.class
    is_query = record {
      list = omega (arith, at.query, length-range_with_len 0 (length (queries_at s spot.level)));
      within = rw query_there (omega (arith, at.class, length-map (classes_of s (query_at s spot.level spot.query)) (place unit_at spot.query)));
      index = omega (arith, queries_before spot.level unit_at spot.query (omega (arith, at.query)));
    }

    is_unit : IsIn (unit_places s spot.level) (units_at sp spot.level) 0 in_level spot.unit in_unit
    is_unit = record {
      list = at.unit;
      within = in_all (query_places s spot.level unit_at) (query_numbers s spot.level) 0 in_unit spot.query spot.class is_query;
      index = omega (arith, units_before spot.level spot.unit (omega (arith, at.unit)));
    }

    is_level : IsIn (level_places s sp) (level_numbers s) 0 index spot.level in_level
    is_level = record {
      list = omega (arith, at.level, length-range_with_len 0 (length s.levels));
      within = rw level_there (in_all (unit_places s spot.level) (units_at sp spot.level) 0 in_level spot.unit in_unit is_unit);
      index = omega (arith, at.before, levels_before spot.level (omega (arith, at.level)));
    }

    pub index_below : index < length (places_of s sp)
    index_below = in_all (level_places s sp) (level_numbers s) 0 index spot.level in_level is_level

    pub place_there : get_or (places_of s sp) index nowhere ≡ place_of s sp spot
    place_there =
        stands (level_places s sp) (level_numbers s) 0 index spot.level in_level is_level nowhere
        ∙ ap (λ l. get_or (level_places s sp l) in_level nowhere) level_there
        ∙ stands (unit_places s spot.level) (units_at sp spot.level) 0 in_level spot.unit in_unit is_unit nowhere
        ∙ stands (query_places s spot.level unit_at) (query_numbers s spot.level) 0 in_unit spot.query spot.class is_query nowhere
        ∙ ap (λ q. get_or (query_places s spot.level unit_at q) spot.class nowhere) query_there
        ∙ get_or-map (place unit_at spot.query) (classes_of s (query_at s spot.level spot.query)) spot.class 0 nowhere at.class

    pub place_got : slice_get (places_of s sp) index ≡ Some (place_of s sp spot)
    place_got = slice_get-get_or (places_of s sp) index nowhere index_below ∙ ap Some place_there

  -- ---- from an index to where its place stands
  spot_in_unit : (level k u r : ℕ) → level < length s.levels → k < length (units_at sp level) → r < length (unit_places s level u) → (q : ℕ) × (c : ℕ) × (q < length (queries_at s level)) × (c < class_count s level q) × (r ≡ before_query s level q + c)
  spot_in_unit level k u r in_levels in_units below = by (falls (query_places s level u) (query_numbers s level) 0 r below)
    where
      by : (q : ℕ) × (c : ℕ) × IsIn (query_places s level u) (query_numbers s level) 0 r q c → (q : ℕ) × (c : ℕ) × (q < length (queries_at s level)) × (c < class_count s level q) × (r ≡ before_query s level q + c)
      by (q, c, is) =
          let in_queries : q < length (queries_at s level) = omega (arith, is.list, length-range_with_len 0 (length (queries_at s level))) in
          let there = range_at (length (queries_at s level)) q 0 in_queries in
          let within : c < length (query_places s level u q) = rw there at is.within in
          (q, c, in_queries, omega (arith, within, length-map (classes_of s (query_at s level q)) (place u q)), omega (arith, is.index, queries_before level u q (omega arith)))

  spot_in_level : (level r : ℕ) → level < length s.levels → r < length (level_places s sp level)
      → (k : ℕ) × (q : ℕ) × (c : ℕ) × (k < length (units_at sp level)) × (q < length (queries_at s level)) × (c < class_count s level q) × (r ≡ k * places_at s level + (before_query s level q + c))
  spot_in_level level r in_levels below = by (falls (unit_places s level) (units_at sp level) 0 r below)
    where
      by : (k : ℕ) × (j : ℕ) × IsIn (unit_places s level) (units_at sp level) 0 r k j
          → (k : ℕ) × (q : ℕ) × (c : ℕ) × (k < length (units_at sp level)) × (q < length (queries_at s level)) × (c < class_count s level q) × (r ≡ k * places_at s level + (before_query s level q + c))
      by (k, j, is) =
          let rest = spot_in_unit level k (get_or (units_at sp level) k 0) j in_levels is.list is.within in
          let before = units_before level k (omega (arith, is.list)) in
          (k, rest.0, rest.1, is.list, rest.2, rest.3, omega (arith, is.index, before, rest.4))

  pub spot_from : (index : ℕ) → index < length (places_of s sp) → (spot : Spot) × StandsAt s sp index spot
  spot_from index below = by (falls (level_places s sp) (level_numbers s) 0 index below)
    where
      by : (l : ℕ) × (j : ℕ) × IsIn (level_places s sp) (level_numbers s) 0 index l j → (spot : Spot) × StandsAt s sp index spot
      by (l, j, is) =
          let in_levels : l < length s.levels = omega (arith, is.list, length-range_with_len 0 (length s.levels)) in
          let there = range_at (length s.levels) l 0 in_levels in
          let rest = spot_in_level l j in_levels (rw there at is.within) in (
            record { level = l; unit = rest.0; query = rest.1; class = rest.2 },
            record {
              level = in_levels;
              unit = rest.3;
              query = rest.4;
              class = rest.5;
              before = omega (arith, is.index, levels_before l (omega arith), rest.6);
            },
          )

  -- ---- a place is one
  pub unit_is : (level k : ℕ) → k < length (units_at sp level) → IsUnit sp (get_or (units_at sp level) k 0) × (level_of sp (get_or (units_at sp level) k 0) ≡ level)
  unit_is level k below =
      let within = All-filter (is_at sp level) (λ u. u < length sp.units) (unit_numbers sp) (All-from_get_or (λ u. u < length sp.units) (unit_numbers sp) 0 (λ i l.
      let inside : i < length sp.units = omega (arith, l, length-range_with_len 0 (length sp.units)) in
      omega (arith, range_at (length sp.units) i 0 inside))) in
      (within k 0 below, eqb-true _ level (filter_passes (is_at sp level) (unit_numbers sp) k 0 below))

  pub is_one : (spot : Spot) → spot.unit < length (units_at sp spot.level) → spot.query < length (queries_at s spot.level) → spot.class < class_count s spot.level spot.query → IsPlace s sp (place_of s sp spot)
  is_one spot in_units in_queries in_classes =
      let unit = unit_is spot.level spot.unit in_units in
      record {
        unit = unit.0;
        query = rw unit.1 in_queries;
        class = rw unit.1 (spot.class, in_classes, get_or_same (classes_of s (query_at s spot.level spot.query)) spot.class in_classes);
      }
    where
      get_or_same : (xs : List ℕ) (k : ℕ) → k < length xs → get_or xs k (get_or xs k 0) ≡ get_or xs k 0
      get_or_same xs k below = get_or_default xs k (get_or xs k 0) 0 below
