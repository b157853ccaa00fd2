-- The demo's texts are those of its facilities and records.
use Rattle.std.proofs.Common.{◌≡◌, ℕ, List, [], ◌∷◌, ◌++◌, map, codes, refl, ap, ◌∙◌}
use Rattle.std.specs.Fmt.{decimal, digits}
use Rattle.std.specs.List.{flat_map, range_with_len}
use Rattle.std.proofs.lemmas.List.{map-append}
use Rattle.tda_io.specs.Csv.{Row}
use Rattle.tda_io.specs.Texts.{row_text}
use Rattle.tda_model.specs.Schema.{Schema}
use Rattle.tda_model.specs.Spine.{Spine}
use Rattle.tda_records.specs.declared.records.Record.{Record}
use Rattle.tda_demo.specs.Demo.{facilities_text, records_text}
use Rattle.tda_demo.specs.DemoSpine.{spine}
use Rattle.tda_demo.specs.Facilities as rows
use Rattle.tda_demo.specs.Facilities.{block_code, block_count, block_unit, facility_kinds, facility_row}
use Rattle.tda_demo.specs.Names.{value_name}
use Rattle.tda_demo.specs.Persons as persons
use Rattle.tda_demo.specs.Persons.{block_persons, person_row, word}
use Rattle.tda_demo.specs.Schema.{schema}
use Rattle.tda_demo_laws.specs.DemoEntries.{block_facilities, facilities}
use Rattle.tda_demo_laws.specs.DemoRecords.{block_records, records}
use Rattle.tda_demo_laws.specs.FacilitiesText.{Entry, entry_row, entry_rows, entries_text}
use Rattle.tda_demo_laws.specs.RecordsText as text
use Rattle.tda_demo_laws.specs.RecordsText.{record_row, record_rows}

-- the rows of lists put together
spread : {X : Type 0} (row : X → Row) (f : ℕ → List X) (g : ℕ → List Row) → ((i : ℕ) → map row (f i) ≡ g i)
    → (ks : List ℕ) → map row (flat_map f ks) ≡ flat_map g ks
spread row f g same [] = refl
spread row f g same (k ∷ ks) =
    map-append row (f k) (flat_map f ks)
    ∙ ap (λ xs. xs ++ map row (flat_map f ks)) (same k)
    ∙ ap (λ xs. g k ++ xs) (spread row f g same ks)

one_is : decimal 1 ≡ codes "1"
unfolding digits
one_is = refl

module _ (s : Schema) (sp : Spine) where
  entry_rows_at : (i : ℕ) (kinds : List ℕ)
      → map (entry_row s sp) (map (λ kind. let e : Entry = record { unit = block_unit sp i; kind = kind; count = 1 } in e) kinds) ≡ map (facility_row s (block_code sp i)) kinds
  entry_rows_at i [] = refl
  entry_rows_at i (kind ∷ kinds) =
      ap (λ one. (block_code sp i ∷ value_name s 0 kind ∷ one ∷ []) ∷ map (entry_row s sp) (map (λ k. let e : Entry = record { unit = block_unit sp i; kind = k; count = 1 } in e) kinds)) one_is
      ∙ ap (λ rs. facility_row s (block_code sp i) kind ∷ rs) (entry_rows_at i kinds)

  facility_rows_are : entry_rows s sp (facilities sp) ≡ rows.facility_rows s (block_code sp) (block_count sp)
  facility_rows_are =
      spread (entry_row s sp) (block_facilities sp) (λ i. rows.block_facility_rows s (block_code sp i) i) (λ i. entry_rows_at i (facility_kinds i))
      (range_with_len 0 (block_count sp))

  record_rows_at : (i : ℕ) (cells : List ℕ)
      → map (record_row s sp) (map (λ c. let r : Record = record { block = block_unit sp i; cell = c } in r) cells) ≡ map (person_row s (block_code sp i)) cells
  record_rows_at i [] = refl
  record_rows_at i (c ∷ cells) = ap (λ rs. person_row s (block_code sp i) c ∷ rs) (record_rows_at i cells)

  record_rows_are : (words : ℕ → ℕ) → record_rows s sp (records sp words) ≡ persons.person_rows s words (block_code sp) (block_count sp)
  record_rows_are words =
      spread (record_row s sp) (block_records sp words) (λ i. map (person_row s (block_code sp i)) (block_persons words i)) (λ i. record_rows_at i (block_persons words i))
      (range_with_len 0 (block_count sp))

pub facilities_text_is : (size : ℕ) → entries_text schema (spine size) (facilities (spine size)) ≡ facilities_text size
unfolding facilities_text
facilities_text_is size = ap (λ rs. row_text rows.header ++ flat_map row_text rs) (facility_rows_are schema (spine size))

pub records_text_is : (number size : ℕ) → text.records_text schema (spine size) (records (spine size) (word number)) ≡ records_text number size
unfolding records_text
records_text_is number size = ap (λ rs. row_text (persons.header schema) ++ flat_map row_text rs) (record_rows_are schema (spine size) (word number))
