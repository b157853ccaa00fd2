-- The measurements: a whole number for each place. And the file of them.
use Rattle.std.specs.Prelude.{◌≡◌, ◌+◌, ◌≤◌, ◌^◌, ◌++◌, ℕ, ℤ, pos, nat_abs, Bool, false, not, nat_le, nat_lt, if◌then◌else◌, codes, length, List, [], ◌∷◌, map, take, All, slice_get, slice_index_or, Option, Some, None, is_none, unwrap_or, option_and_then, Result}
use Rattle.std.specs.Fmt.{decimal, signed_decimal}
use Rattle.std.specs.List.{flat_map, zip}
use Rattle.tda_model.specs.Schema.{Schema}
use Rattle.tda_model.specs.Spine.{Spine, code_of, level_of}
use Rattle.tda_io.specs.Csv as csv
use Rattle.tda_io.specs.Csv.{Row, Format, same_row}
use Rattle.tda_io.specs.Texts.{int_of, row_text}
use Rattle.tda_schema.specs.Stated.{query_at}
use Rattle.tda_places.specs.Places.{index_of, places_of}
use Rattle.tda_places.specs.declared.place.Place.{Place}
use Rattle.tda_places.specs.declared.fault.MeaFault.{MeaFault}
use Rattle.tda_places.specs.declared.fault.MeaFault.TheVariants.{BadRow, BadHeader, WrongPlace, BadNumber, Missing, TooMany}

-- how far from 0 a measurement may be
abbrev pub measurement_limit : ℕ
measurement_limit = 2 ^ 31

abbrev pub IsWithinLimit : ℤ → Type 0
IsWithinLimit z = nat_abs z ≤ measurement_limit

abbrev pub AreWithinLimit : List ℤ → Type 0
AreWithinLimit m = All IsWithinLimit m

-- a number for each place, none too far from 0
pub record AreMeasurementsOf (s : Schema) (sp : Spine) (m : List ℤ) : Type 0 where
  pub size : length m ≡ length (places_of s sp)
  pub few : AreWithinLimit m

-- the measurement of a place
abbrev pub measured_at : Schema → Spine → List ℤ → Place → ℤ
measured_at s sp m p = elim (index_of s sp p) [ Some i ↦ slice_index_or m i (pos 0) | None ↦ pos 0 ]

-- the number stands among the measurements where the place stands among the places
pub record StandsBeside (s : Schema) (sp : Spine) (m : List ℤ) (p : Place) (z : ℤ) : Type 0 where
  pub index : ℕ
  pub place : slice_get (places_of s sp) index ≡ Some p
  pub number : slice_get m index ≡ Some z

-- ---- the file
abbrev pub header : Row
header = codes "unit" ∷ codes "query" ∷ codes "class" ∷ codes "value" ∷ []

-- how a row names a place: by the unit's code, the query's name and the class's number
abbrev pub place_fields : Schema → Spine → Place → Row
place_fields s sp p = code_of sp p.unit ∷ (query_at s (level_of sp p.unit) p.query).name ∷ decimal p.class ∷ []

-- the row of a place with its measurement
abbrev pub measurement_row : Schema → Spine → Place → ℤ → Row
measurement_row s sp p z = place_fields s sp p ++ signed_decimal z ∷ []

-- the file of measurements, a row for each place
abbrev pub measurements_text : Schema → Spine → List ℤ → List ℕ
measurements_text s sp m = row_text header ++ flat_map (λ x. row_text (measurement_row s sp x.0 x.1)) (zip (places_of s sp) m)

-- ---- what a row says
abbrev pub within_limit : ℤ → Option ℤ
within_limit z = if nat_le (nat_abs z) measurement_limit then Some z else None

-- the number within the limit that a text is the canonical decimal of
abbrev pub measurement_named : List ℕ → Option ℤ
measurement_named text = option_and_then within_limit (int_of text)

abbrev pub measurement_in : Row → Option ℤ
measurement_in row = measurement_named (slice_index_or row 3 [])

-- the row at an index has a place, and its first three fields don't name that place
abbrev pub has_wrong_place : Schema → Spine → ℕ → Row → Bool
has_wrong_place s sp index row = elim (slice_get (places_of s sp) index) [ Some p ↦ not (same_row (place_fields s sp p) (take 3 row)) | None ↦ false ]

-- the row at an index comes after the last place
abbrev pub is_past : Schema → Spine → ℕ → Bool
is_past s sp index = nat_le (length (places_of s sp)) index

-- the fault of the row at an index after the header, which is row 1
abbrev pub row_fault : Schema → Spine → ℕ → Row → Option MeaFault
row_fault s sp index row =
    if has_wrong_place s sp index row then Some (WrongPlace (index + 2))
    else if is_none (measurement_in row) then Some (BadNumber (index + 2))
    else if is_past s sp index then Some (TooMany (index + 2))
    else None

-- fewer rows than places
abbrev pub file_fault : Schema → Spine → List Row → Option MeaFault
file_fault s sp rows = if nat_lt (length rows) (length (places_of s sp)) then Some Missing else None

abbrev pub number_of : Row → ℤ
number_of row = unwrap_or (measurement_in row) (pos 0)

abbrev pub format : Schema → Spine → Format MeaFault (List ℤ)
format s sp = record {
  bad_row = BadRow;
  bad_header = BadHeader;
  header = header;
  row_fault = λ rows earlier. row_fault s sp (length earlier);
  file_fault = file_fault s sp;
  value = map number_of;
}

-- the measurements of a file, or its fault
abbrev pub read : Schema → Spine → List ℕ → Result (List ℤ) MeaFault
read s sp text = csv.read (format s sp) text
