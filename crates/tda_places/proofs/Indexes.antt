-- A place stands at one index.
use Rattle.std.proofs.Common.{◌≡◌, ◌≢◌, ℕ, zero, suc, [], ◌∷◌, cond, filter, ◌+◌, ◌*◌, ◌<◌, ◌≤◌, ◌&&◌, ◌==◌, Bool, true, false, List, length, get_or, Option, Some, None, Result, Ok, Contains, position, refl, sym, ap, ◌∙◌, inl, inr, arith}
use Rattle.std.specs.Prelude.{slice_get}
use Rattle.std.specs.List.{position_or_len}
use Rattle.std.specs.List.Sorted.{IsBinarySearchResult}
use Rattle.std.specs.Ordering.{nat_cmp}
use Rattle.std.proofs.lemmas.Bool.{and_from, cases_Bool, eq-eqb, eqb-true, lt-ltb}
use Rattle.std.proofs.lemmas.List.Sums.{position_or_len_is}
use Rattle.std.proofs.lemmas.Option.{slice_get-get_or}
use Rattle.tda_model.specs.Schema.{Schema}
use Rattle.tda_model.specs.Groups.{classes_of}
use Rattle.tda_model.specs.Sizes.{places_at}
use Rattle.tda_model.specs.Spine.{Spine, IsUnit, is_at, level_of, unit_numbers, units_at}
use Rattle.tda_model.proofs.Sums.{filter_each, range_each}
use Rattle.tda_schema.specs.Stated.{queries_at, query_at}
use Rattle.tda_spine.specs.Sound.{IsSound}
use Rattle.tda_places.specs.Places.{index_of, is_place, place, places_of, IsPlace}
use Rattle.tda_places.specs.Spots.{before_level, before_query, class_count, place_of, StandsAt}
use Rattle.tda_places.specs.declared.place.Place.{Place}
use Rattle.tda_places.specs.declared.spot.Spot.{Spot}
use Rattle.std.proofs.lemmas.List.FromFn.{length-range_with_len}
use Rattle.tda_places.proofs.Nested.{range_at}
use Rattle.tda_places.proofs.Rising.{classes_rise, once, units_rise}
use Rattle.tda_places.proofs.Spots.{index_below, nowhere, place_there, spot_from, unit_is}

module _ (s : Schema) (sp : Spine) where
  -- ---- where a place stands tells the index
  abbrev index_by : ℕ → ℕ → ℕ → ℕ → ℕ
  index_by level unit query class = before_level s sp level + unit * places_at s level + before_query s level query + class

  one_index : (i j : ℕ) (a b : Spot) → StandsAt s sp i a → StandsAt s sp j b → place_of s sp a ≡ place_of s sp b → i ≡ j
  one_index i j a b at_i at_j same =
      let units : get_or (units_at sp a.level) a.unit 0 ≡ get_or (units_at sp b.level) b.unit 0 = ap (λ (p : Place). p.unit) same in
      let classes : get_or (classes_of s (query_at s a.level a.query)) a.class 0 ≡ get_or (classes_of s (query_at s b.level b.query)) b.class 0 = ap (λ (p : Place). p.class) same in
      let query : a.query ≡ b.query = ap (λ (p : Place). p.query) same in
      let level : a.level ≡ b.level = sym (unit_is s sp a.level a.unit at_i.unit).1 ∙ ap (level_of sp) units ∙ (unit_is s sp b.level b.unit at_j.unit).1 in
      let unit : a.unit ≡ b.unit = once (units_at sp b.level) (units_rise sp b.level) a.unit b.unit (rw level at at_i.unit) at_j.unit (rw level at units) in
      let class : a.class ≡ b.class =
      once (classes_of s (query_at s b.level b.query)) (classes_rise s (query_at s b.level b.query)) a.class b.class (rw (level, query) at at_i.class) at_j.class (rw (level, query) at classes) in
      at_i.before
      ∙ ap (λ l. index_by l a.unit a.query a.class) level
      ∙ ap (λ u. index_by b.level u a.query a.class) unit
      ∙ ap (λ q. index_by b.level b.unit q a.class) query
      ∙ ap (λ c. index_by b.level b.unit b.query c) class
      ∙ sym at_j.before

  -- ---- the index of a place
  itself : (p : Place) → is_place p p ≡ true
  itself p = and_from (p.unit == p.unit && (p.query == p.query)) (p.class == p.class) (and_from (p.unit == p.unit) (p.query == p.query) (eq-eqb p.unit p.unit refl) (eq-eqb p.query p.query refl)) (eq-eqb p.class p.class refl)

  both : (a b : Bool) → (a && b) ≡ true → (a ≡ true) × (b ≡ true)
  both true true e = (refl, refl)
  both true false e = cc
  both false b e = cc

  same_place : (p x : Place) → is_place p x ≡ true → x ≡ p
  same_place p x e =
      let outer = both (x.unit == p.unit && (x.query == p.query)) (x.class == p.class) e in
      let inner = both (x.unit == p.unit) (x.query == p.query) outer.0 in
      let unit : x.unit ≡ p.unit = eqb-true x.unit p.unit inner.0 in
      let query : x.query ≡ p.query = eqb-true x.query p.query inner.1 in
      let class : x.class ≡ p.class = eqb-true x.class p.class outer.1 in
      ap (λ u. place u x.query x.class) unit ∙ ap (λ q. place p.unit q x.class) query ∙ ap (λ c. place p.unit p.query c) class

  module _ (i : ℕ) (spot : Spot) (at : StandsAt s sp i spot) where
    abbrev here : Place
    here = place_of s sp spot

    earlier_differs : (k : ℕ) → k < i → is_place here (get_or (places_of s sp) k nowhere) ≡ false
    earlier_differs k less = elim (cases_Bool (is_place here (get_or (places_of s sp) k nowhere))) [
      | inl same ↦
          let other = spot_from s sp k (omega (arith, less, index_below s sp i spot at)) in
          let it : place_of s sp other.0 ≡ here = sym (place_there s sp k other.0 other.1) ∙ same_place here (get_or (places_of s sp) k nowhere) same in
          let one = one_index k i other.0 spot other.1 at it in
          absurd (omega arith)
      | inr differs ↦ differs
    ]

    pub index_there : index_of s sp here ≡ Some i
    index_there =
        let below = index_below s sp i spot at in
        let first : position_or_len (is_place here) (places_of s sp) ≡ i =
        position_or_len_is (is_place here) (places_of s sp) i nowhere (omega arith) earlier_differs
        (λ _. ap (is_place here) (place_there s sp i spot at) ∙ itself here) in
        rw (first, lt-ltb i (length (places_of s sp)) below) refl

-- what passes is kept
kept_there : (p : ℕ → Bool) (xs : List ℕ) (x i : ℕ) → i < length xs → get_or xs i x ≡ x → p x ≡ true → Contains (filter p xs) x
kept_there p [] x i below there passes = absurd (omega arith)
kept_there p (y ∷ ys) x zero below there passes = let here : p y ≡ true = ap p there ∙ passes in rw here (0, omega arith, there)
kept_there p (y ∷ ys) x (suc i) below there passes = by (p y) (kept_there p ys x i (omega arith) there passes)
  where
    by : (b : Bool) → Contains (filter p ys) x → Contains (cond b (y ∷ filter p ys) (filter p ys)) x
    by true (k, within, is) = (suc k, omega arith, is)
    by false later = later

-- a unit is one of those of its level
pub unit_among : (sp : Spine) (u : ℕ) → IsUnit sp u → Contains (units_at sp (level_of sp u)) u
unit_among sp u here =
    kept_there (is_at sp (level_of sp u)) (unit_numbers sp) u u (omega (arith, here, length-range_with_len 0 (length sp.units))) (range_at (length sp.units) u u here) (eq-eqb (level_of sp u) (level_of sp u) refl)
