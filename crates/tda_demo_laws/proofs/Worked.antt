-- The demo's numbers and texts, computed from the definitions.
use Rattle.std.proofs.Common.{◌≡◌, codes, [], ◌∷◌, length, take, refl}
use Rattle.std.specs.Fmt.{digits}
use Rattle.tda_model.specs.Sizes.{place_count}
use Rattle.tda_demo.specs.DemoSpine.{spine}
use Rattle.tda_demo.specs.Schema.{schema}
use Rattle.tda_demo.specs.SpineText.{unit_rows}

units_of_two : length (spine 2).units ≡ 81
units_of_two = refl

places_of_two : place_count schema (spine 2) ≡ 867
places_of_two = refl

first_rows : take 6 (unit_rows schema (spine 2))
    ≡ (codes "US" ∷ codes "nation" ∷ [] ∷ []) ∷ (codes "S1" ∷ codes "state" ∷ codes "US" ∷ []) ∷ (codes "S1C1" ∷ codes "county" ∷ codes "S1" ∷ []) ∷ (codes "S1C1T1" ∷ codes "tract" ∷ codes "S1C1" ∷ [])
    ∷ (codes "S1C1T1B1" ∷ codes "block" ∷ codes "S1C1T1" ∷ []) ∷ (codes "S1C1T1B2" ∷ codes "block" ∷ codes "S1C1T1" ∷ []) ∷ []
unfolding digits
first_rows = refl
