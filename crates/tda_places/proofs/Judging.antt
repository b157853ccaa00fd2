-- What a row says of the place at its index.
use Rattle.std.proofs.Common.{◌≡◌, ◌≢◌, ℕ, ◌+◌, ◌<◌, ◌≤◌, Bool, true, false, not, cond, List, [], ◌∷◌, length, take, Option, Some, None, ℤ, nat_le, is_none, refl, sym, ap, ◌∙◌, arith}
use Rattle.std.specs.Prelude.{slice_get}
use Rattle.std.specs.Fmt.{decimal}
use Rattle.std.proofs.lemmas.Bool.{lt-leb}
use Rattle.tda_io.specs.Csv.{Row, same_row}
use Rattle.tda_model.specs.Schema.{Schema}
use Rattle.tda_model.specs.Spine.{Spine, code_of, level_of}
use Rattle.tda_schema.specs.Stated.{query_at}
use Rattle.tda_places.specs.Measurements.{has_wrong_place, is_past, measurement_in, place_fields, row_fault}
use Rattle.tda_places.specs.Places.{places_of}
use Rattle.tda_places.specs.Spots.{place_of, StandsAt}
use Rattle.tda_places.specs.declared.fault.MeaFault.{MeaFault}
use Rattle.tda_places.specs.declared.fault.MeaFault.TheVariants.{BadNumber, TooMany, WrongPlace}
use Rattle.tda_places.specs.declared.place.Place.{Place}
use Rattle.tda_places.specs.declared.spot.Spot.{Spot}
use Rattle.tda_places.proofs.Spots.{index_below, place_got, unit_is}

module _ (s : Schema) (sp : Spine) (index : ℕ) where
  -- ---- a row that has a place
  module _ (p : Place) (there : slice_get (places_of s sp) index ≡ Some p) (below : index < length (places_of s sp)) (row : Row) where
    wrong_is : has_wrong_place s sp index row ≡ not (same_row (place_fields s sp p) (take 3 row))
    wrong_is = ap (λ o. elim o as (λ _. Bool) [ Some x ↦ not (same_row (place_fields s sp x) (take 3 row)) | None ↦ false ]) there

    abbrev then_past : Option MeaFault
    then_past = cond (is_past s sp index) (Some (TooMany (index + 2))) None

    abbrev then_number : Option MeaFault
    then_number = cond (is_none (measurement_in row)) (Some (BadNumber (index + 2))) then_past

    pub other_place : same_row (place_fields s sp p) (take 3 row) ≡ false → row_fault s sp index row ≡ Some (WrongPlace (index + 2))
    other_place other = ap (λ b. cond b (Some (WrongPlace (index + 2))) then_number) (wrong_is ∙ ap not other)

    module _ (same : same_row (place_fields s sp p) (take 3 row) ≡ true) where
      right_place : row_fault s sp index row ≡ then_number
      right_place = ap (λ b. cond b (Some (WrongPlace (index + 2))) then_number) (wrong_is ∙ ap not same)

      pub no_number : measurement_in row ≡ None → row_fault s sp index row ≡ Some (BadNumber (index + 2))
      no_number none = right_place ∙ ap (λ o. cond (is_none o) (Some (BadNumber (index + 2))) then_past) none

      pub no_fault : (z : ℤ) → measurement_in row ≡ Some z → row_fault s sp index row ≡ None
      no_fault z number =
          right_place
          ∙ ap (λ o. cond (is_none o) (Some (BadNumber (index + 2))) then_past) number
          ∙ ap (λ b. cond b (Some (TooMany (index + 2))) None) (lt-leb (length (places_of s sp)) index below)

-- how the row of a place names it
pub fields_are : (s : Schema) (sp : Spine) (index : ℕ) (spot : Spot) → StandsAt s sp index spot
    → place_fields s sp (place_of s sp spot) ≡ code_of sp (place_of s sp spot).unit ∷ (query_at s spot.level spot.query).name ∷ decimal (place_of s sp spot).class ∷ []
fields_are s sp index spot at =
    ap (λ l. code_of sp (place_of s sp spot).unit ∷ (query_at s l spot.query).name ∷ decimal (place_of s sp spot).class ∷ []) (unit_is s sp spot.level spot.unit at.unit).1

pub equal : (b ne : Bool) → ne ≡ not b → ne ≡ false → b ≡ true
equal true ne e differs = refl
equal false ne e differs = cc

pub unequal : (b ne : Bool) → ne ≡ not b → ne ≡ true → b ≡ false
unequal true ne e differs = cc
unequal false ne e differs = refl
