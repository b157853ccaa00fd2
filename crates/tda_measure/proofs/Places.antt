-- The steps of all places, and what their measurements come to.
use Rattle.std.proofs.Common.{◌≡◌, ℕ, ◌<◌, ◌≤◌, ℤ, pos, ◌+ℤ◌, List, [], ◌∷◌, length, map, get_or, All, refl, sym, ap, ◌∙◌, subst, arith, suc}
use Rattle.std.proofs.lemmas.Bool.{eqb-true}
use Rattle.std.proofs.lemmas.List.Elements.{All-get_or, All-from_recursion}
use Rattle.tda_model.specs.Schema.{Schema}
use Rattle.tda_model.specs.Cells.{cell_count}
use Rattle.tda_model.specs.Groups.{classes_of}
use Rattle.tda_model.specs.Spine.{Spine, IsUnit, level_of, is_at, units_at, unit_numbers}
use Rattle.tda_model.specs.Tables.{Tables}
use Rattle.tda_model.proofs.Sums.{Each, each_any, each_filter, each_range}
use Rattle.tda_out.specs.Counts.{Counts, count_at, AreCountsOf}
use Rattle.tda_places.specs.Measurements.{IsWithinLimit, AreMeasurementsOf}
use Rattle.tda_places.specs.Places.{place, query_places, query_numbers, unit_places, level_places, level_numbers, places_of}
use Rattle.tda_places.specs.declared.place.Place.{Place}
use Rattle.tda_schema.specs.Kept.{AreQueriesKept}
use Rattle.tda_schema.specs.Stated.{queries_at, query_at}
use Rattle.tda_measure.specs.Measured.{sum_at, noisy, AreMeasured, HaveFewPersons}
use Rattle.tda_measure.specs.Noise.{variance_at, variances_of, AreDrawn, NoiseStops}
use Rattle.tda_measure.specs.Steps.{Step, variances, query_steps, unit_steps, level_steps, all_steps, AreTaken, Adds, Stops, HasCounts}
use Rattle.tda_measure.specs.declared.stop.MeasureStop.{MeasureStop}
use Rattle.tda_measure.proofs.Lists.{each_flat, each_map, map_flat, map_twice}
use Rattle.tda_measure.proofs.Outcomes.{IsVariance}

pub all_units : (sp : Spine) (level : ℕ) → All (IsUnit sp) (units_at sp level)
all_units sp level =
    All-from_recursion (IsUnit sp) (units_at sp level) (each_filter (IsUnit sp) (is_at sp level) (unit_numbers sp) (each_range _ 0 (length sp.units) (λ u low high at. omega arith)))

-- the counts of a unit of a level
pub unit_counts : (s : Schema) (sp : Spine) (counts : Counts) → AreCountsOf s sp counts → HaveFewPersons s sp (count_at counts) → (level i d : ℕ) → i < length (units_at sp level) → HasCounts s counts (get_or (units_at sp level) i d)
unit_counts s sp counts are few level i d below =
    let u = get_or (units_at sp level) i d in
    let here : u < length sp.units = All-get_or (IsUnit sp) (units_at sp level) i d below (all_units sp level) in
    let inside : u < length counts = omega (arith, are.units, here) in
    record { here = inside; cells = All-get_or (λ row. length row ≡ cell_count s) counts u [] inside are.cells; few = few u here }

module _ (s : Schema) (sp : Spine) where
  each_of_level : (P : ℕ → Type 0) (level : ℕ) → ((u : ℕ) → level_of sp u ≡ level → P u) → Each P (units_at sp level)
  each_of_level P level holds = each_filter P (is_at sp level) (unit_numbers sp) (each_any _ (unit_numbers sp) (λ u at. holds u (eqb-true (level_of sp u) level at)))

  -- the variances of queries with shares
  module _ (kept : AreQueriesKept s) where
    IsPaid : Place → Type 0
    IsPaid p = IsVariance (variance_at s sp p)

    paid_at : (level unit query : ℕ) → level < length s.levels → query < length (queries_at s level) → level_of sp unit ≡ level → (c : ℕ) → IsVariance (variance_at s sp (place unit query c))
    paid_at level unit query within inside at c = subst (λ l. 1 ≤ (query_at s l query).share.num) (sym at) (kept level query within inside).share.some

    pub variances_positive : Each IsVariance (variances_of s sp)
    variances_positive =
        each_map IsVariance (variance_at s sp) (places_of s sp)
        (each_flat (λ p. IsVariance (variance_at s sp p)) (level_places s sp) (level_numbers s) (each_range _ 0 (length s.levels) (λ level low high.
        let within : level < length s.levels = omega arith in
        each_flat (λ p. IsVariance (variance_at s sp p)) (unit_places s level) (units_at sp level) (each_of_level _ level (λ unit at.
        each_flat (λ p. IsVariance (variance_at s sp p)) (query_places s level unit) (query_numbers s level) (each_range _ 0 (length (queries_at s level)) (λ query low high.
        let inside : query < length (queries_at s level) = omega arith in
        each_map (λ p. IsVariance (variance_at s sp p)) (place unit query) (classes_of s (query_at s level query)) (each_any _ (classes_of s (query_at s level query)) (paid_at level unit query within inside at)))))))))

  module _ (x : Tables) where
    -- the step at a place
    abbrev pub step_at : Place → Step
    step_at p = record { sum = sum_at s sp x p; variance = variance_at s sp p }

    query_same : (level unit query : ℕ) → level_of sp unit ≡ level → map step_at (query_places s level unit query) ≡ query_steps s (query_at s level query) (x unit)
    query_same level unit query at =
        subst (λ l. map step_at (query_places s l unit query) ≡ query_steps s (query_at s l query) (x unit)) at
        (map_twice step_at (place unit query) (classes_of s (query_at s (level_of sp unit) query)))

    pub steps_are : map step_at (places_of s sp) ≡ all_steps s sp x
    steps_are =
        map_flat step_at (level_places s sp) (level_steps s sp x) (level_numbers s) (each_any _ (level_numbers s) (λ level.
        map_flat step_at (unit_places s level) (λ u. unit_steps s level (x u)) (units_at sp level) (each_of_level _ level (λ unit at.
        map_flat step_at (query_places s level unit) (λ query. query_steps s (query_at s level query) (x unit)) (query_numbers s level) (each_any _ (query_numbers s level) (λ query. query_same level unit query at))))))

    variances_are : variances (all_steps s sp x) ≡ variances_of s sp
    variances_are = ap variances (sym steps_are) ∙ map_twice (λ y. y.variance) step_at (places_of s sp)

    -- measurements, each a sum with the number that was drawn
    record Comes (ps : List Place) (w : List ℕ) (ms : List ℤ) (r : List ℕ) : Type 0 where
      noise : List ℤ
      drawn : AreDrawn (map (variance_at s sp) ps) w noise r
      sums : ms ≡ noisy (map (sum_at s sp x) ps) noise
      size : length ms ≡ length ps
      within : Each IsWithinLimit ms

    taken_comes : (ps : List Place) (w : List ℕ) (ms : List ℤ) (r : List ℕ) → AreTaken (map step_at ps) w ms r → Comes ps w ms r
    taken_comes [] w [] r e = record { noise = []; drawn = e; sums = refl; size = refl; within = tt }
    taken_comes [] w (m ∷ ms) r e = absurd e
    taken_comes (p ∷ ps) w [] r e = absurd e
    taken_comes (p ∷ ps) w (m ∷ ms) r (y, rest, here, is, small, later) =
        let h = taken_comes ps rest ms r later in
        record {
          noise = y ∷ h.noise;
          drawn = (rest, here, h.drawn);
          sums = ap (λ k. k ∷ ms) is ∙ ap (λ ks. (pos (sum_at s sp x p) +ℤ y) ∷ ks) h.sums;
          size = ap suc h.size;
          within = (small, h.within);
        }

    module _ (w : List ℕ) (m : List ℤ) (r : List ℕ) (h : Adds (all_steps s sp x) w [] m r) where
      comes : Comes (places_of s sp) w h.added r
      comes = taken_comes (places_of s sp) w h.added r (subst (λ steps. AreTaken steps w h.added r) (sym steps_are) h.taken)

      pub all_measured : AreMeasured s sp x w m r
      all_measured = let c = comes in record { noise = c.noise; drawn = c.drawn; sums = h.appended ∙ c.sums }

      pub all_each : AreMeasurementsOf s sp m
      all_each =
          let c = comes in
          let is : h.added ≡ m = sym h.appended in
          record {
            size = ap length h.appended ∙ c.size;
            few = subst (λ ms. All IsWithinLimit ms) is (All-from_recursion IsWithinLimit h.added c.within);
          }

    pub all_stops : (w : List ℕ) (why : MeasureStop) (r : List ℕ) → Stops (all_steps s sp x) w [] why r → NoiseStops (variances_of s sp) w why r
    all_stops w why r h = subst (λ vs. NoiseStops vs w why r) variances_are h
