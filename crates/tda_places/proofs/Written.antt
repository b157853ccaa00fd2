-- The file of measurements that is written is short enough, and is read back.
use Rattle.std.proofs.Common.{◌≡◌, ◌≢◌, ℕ, zero, suc, ◌+◌, ◌*◌, ◌<◌, ◌≤◌, ◌^◌, Bool, true, false, ◌&&◌, not, cond, List, [], ◌∷◌, ◌++◌, length, get_or, map, take, All, Option, Some, None, Ok, ℤ, pos, negsuc, nat_abs, nat_le, nat_lt, refl, sym, ap, ◌∙◌, arith, length-append}
use Rattle.std.specs.Prelude.{unwrap_or, slice_get}
use Rattle.std.specs.Fmt.{decimal, signed_decimal}
use Rattle.std.specs.List.{AllByRecursion, flat_map, list_all, zip}
use Rattle.std.proofs.lemmas.Bool.{le-leb, le-ltb, leb-true, lt-ltb}
use Rattle.std.proofs.lemmas.Fmt.{length-decimal-le}
use Rattle.std.proofs.lemmas.List.{get_or_default, get_or-map, length-map}
use Rattle.std.proofs.lemmas.List.Elements.{All-contains, All-filter, All-from_get_or, recursion_from_All}
use Rattle.std.proofs.lemmas.List.Folds.{flat_map-map}
use Rattle.std.proofs.lemmas.Option.{slice_get-get_or}
use Rattle.std.proofs.lemmas.Slice.Zip.{get_or-zip, length-zip, seconds-zip}
use Rattle.csv.specs.Reading.{default_config, records, strip_bom}
use Rattle.tda_io.specs.Csv.{Row, first_fault, judged, or_else, same_row}
use Rattle.tda_io.specs.Rows.{bad_width, other_width, rows_of}
use Rattle.tda_io.specs.Texts.{fits_i128, int_of, is_plain_byte, name_test, row_text, starts_name, IsPlain}
use Rattle.tda_io.proofs.Numbers.{int_of-decimal}
use Rattle.tda_io.proofs.PlainNames.{plain_name}
use Rattle.tda_io.proofs.PlainRows.{plain_decimal, rows_back, IsPlainRow}
use Rattle.tda_model.specs.Schema.{Query, Schema}
use Rattle.tda_model.specs.Cells.{all_cells, cell_count, is_listed, is_possible, possible_cells}
use Rattle.tda_model.specs.Groups.{classes_of, is_class, scope_cells}
use Rattle.tda_model.specs.Sizes.{place_count, places_limit}
use Rattle.tda_model.specs.Spine.{Spine, code_of, level_of}
use Rattle.tda_schema.specs.Kept.{AreQueriesKept}
use Rattle.tda_schema.specs.Stated.{query_at}
use Rattle.tda_spine.specs.Sound.{IsSound}
use Rattle.std.proofs.lemmas.List.FromFn.{length-range_with_len}
use Rattle.tda_places.specs.Measurements.{file_fault, format, header, is_past, measurement_in, measurement_limit, measurement_named, measurement_row, measurements_text, number_of, place_fields, read, row_fault, within_limit, AreMeasurementsOf, IsWithinLimit}
use Rattle.tda_places.specs.Places.{places_of, IsPlace}
use Rattle.tda_places.specs.Spots.{place_of, StandsAt}
use Rattle.tda_places.specs.declared.fault.MeaFault.{MeaFault}
use Rattle.tda_places.specs.declared.fault.MeaFault.TheVariants.{Missing}
use Rattle.tda_places.specs.declared.place.Place.{Place}
use Rattle.tda_places.specs.declared.spot.Spot.{Spot}
use Rattle.tda_places.proofs.Fields.{same_row-itself}
use Rattle.tda_places.proofs.Judging.{fields_are, no_fault}
use Rattle.tda_places.proofs.Nested.{range_at}
use Rattle.tda_places.proofs.Sizes.{count_is}
use Rattle.tda_places.proofs.Spots.{is_one, nowhere, place_there, spot_from, unit_is}

abbrev Each : {X : Type 0} → (X → Type 0) → List X → Type 0
Each P xs = AllByRecursion P xs

-- ---- numbers
pub named_back : (z : ℤ) → IsWithinLimit z → measurement_named (signed_decimal z) ≡ Some z
named_back z within =
    let spells = int_of-decimal z (fits z within) in
    rw (spells, le-leb (nat_abs z) measurement_limit within) refl
  where
    fits : (y : ℤ) → IsWithinLimit y → fits_i128 y ≡ true
    fits (pos n) h = lt-ltb n (2 ^ 127) (omega (arith, h))
    fits (negsuc n) h = lt-ltb n (2 ^ 127) (omega (arith, h))

plain_signed : (z : ℤ) → IsWithinLimit z → IsPlain (signed_decimal z)
plain_signed (pos n) within = plain_decimal n (omega (arith, within))
plain_signed (negsuc n) within = let digits = plain_decimal (suc n) (omega (arith, within)) in record { filled = omega arith; plain = digits.plain }

signed_length : (z : ℤ) → IsWithinLimit z → length (signed_decimal z) ≤ 11
signed_length (pos n) within = let digits = length-decimal-le 10 n (omega arith) (omega (arith, within)) (omega (arith, within)) in omega arith
signed_length (negsuc n) within = let digits = length-decimal-le 10 (suc n) (omega arith) (omega (arith, within)) (omega (arith, within)) in omega arith

-- ---- places
-- a place that is written
pub record IsWritable (s : Schema) (sp : Spine) (p : Place) : Type 0 where
  pub code : name_test 16 (code_of sp p.unit) ≡ true
  pub query : name_test 32 (query_at s (level_of sp p.unit) p.query).name ≡ true
  pub class : p.class < cell_count s

small_classes : (s : Schema) (q : Query) → All (λ c. c < cell_count s) (classes_of s q)
small_classes s q =
    All-filter (is_class s q) (λ c. c < cell_count s) (scope_cells s q)
    (All-filter (is_listed s q.only) (λ c. c < cell_count s) (possible_cells s)
    (All-filter (is_possible s) (λ c. c < cell_count s) (all_cells s)
    (All-from_get_or (λ c. c < cell_count s) (all_cells s) 0 (λ i l.
    let inside : i < cell_count s = omega (arith, l, length-range_with_len 0 (cell_count s)) in
    omega (arith, range_at (cell_count s) i 0 inside)))))

zip_each : {K V : Type 0} (P : K → Type 0) (Q : V → Type 0) (R : K × V → Type 0) (ks : List K) (vs : List V) → ((k : K) (v : V) → P k → Q v → R (k, v)) → Each P ks → Each Q vs → Each R (zip ks vs)
zip_each P Q R [] vs both ps qs = tt
zip_each P Q R (k ∷ ks) [] both ps qs = tt
zip_each P Q R (k ∷ ks) (v ∷ vs) both ps qs = (both k v ps.0 qs.0, zip_each P Q R ks vs both ps.1 qs.1)

-- rows of which none has a fault at its index
fault_free : {F : Type 0} (fault : ℕ → Row → Option F) (rows earlier : List Row) → ((k : ℕ) → k < length rows → fault (length earlier + k) (get_or rows k []) ≡ None)
    → first_fault (λ e row. fault (length e) row) earlier rows ≡ None
fault_free fault [] earlier fine = refl
fault_free fault (row ∷ rows) earlier fine =
    let first : length earlier + 0 ≡ length earlier = omega arith in
    let here : fault (length earlier) row ≡ None = ap (λ n. fault n row) (sym first) ∙ fine 0 (omega arith) in
    ap (λ o. or_else o (first_fault (λ e r. fault (length e) r) (earlier ++ row ∷ []) rows)) here
    ∙ fault_free fault rows (earlier ++ row ∷ []) (λ k below.
    let next : length (earlier ++ row ∷ []) + k ≡ length earlier + suc k = omega (arith, length-append earlier (row ∷ [])) in
    ap (λ n. fault n (get_or rows k [])) next ∙ fine (suc k) (omega arith))

-- texts of at most so many bytes each, one after another
joined_length : {X : Type 0} (f : X → List ℕ) (most : ℕ) (xs : List X) → Each (λ x. length (f x) ≤ most) xs → length (flat_map f xs) ≤ length xs * most
joined_length f most [] h = omega arith
joined_length f most (x ∷ xs) h =
    let rest = joined_length f most xs h.1 in
    let parts = length-append (f x) (flat_map f xs) in
    next (length (f x)) (length (flat_map f xs)) (length xs) (length (f x ++ flat_map f xs)) h.0 rest parts
  where
    next : (a b n c : ℕ) → a ≤ most → b ≤ n * most → c ≡ a + b → c ≤ suc n * most
    next a b n c small le is = omega arith

both : (a b : Bool) → (a && b) ≡ true → (a ≡ true) × (b ≡ true)
both true true h = (refl, refl)
both true false h = cc
both false b h = cc

name_length : (most : ℕ) (name : List ℕ) → name_test most name ≡ true → length name ≤ most
name_length most name h = leb-true (length name) most (both _ _ (both _ _ h).0).1

-- four fields, the commas between them and the line feed
four_length : (a b c d : List ℕ) → length (row_text (a ∷ b ∷ c ∷ d ∷ [])) ≡ length a + length b + length c + length d + 4
four_length a b c d = simp length-append (omega arith)

module _ (s : Schema) (sp : Spine) (m : List ℤ) (are : AreMeasurementsOf s sp m) where
  abbrev measured : List (Place × ℤ)
  measured = zip (places_of s sp) m

  abbrev row_at : Place × ℤ → Row
  row_at x = measurement_row s sp x.0 x.1

  abbrev rows : List Row
  rows = map row_at measured

  pub measured_long : length measured ≡ length (places_of s sp)
  measured_long = omega (arith, length-zip (places_of s sp) m, are.size)

  -- the row of the place at an index
  pub row_is : (k : ℕ) (spot : Spot) → StandsAt s sp k spot → k < length m
      → row_at (get_or measured k (nowhere, pos 0)) ≡ code_of sp (place_of s sp spot).unit ∷ (query_at s spot.level spot.query).name ∷ decimal (place_of s sp spot).class ∷ signed_decimal (get_or m k (pos 0)) ∷ []
  row_is k spot at below =
      ap row_at (get_or-zip (places_of s sp) m k (nowhere, pos 0) (omega (arith, below, are.size)) below)
      ∙ ap (λ p. row_at (p, get_or m k (pos 0))) (place_there s sp k spot at)
      ∙ ap (λ fields. fields ++ signed_decimal (get_or m k (pos 0)) ∷ []) (fields_are s sp k spot at)

  module _ (sound : IsSound sp) (kept : AreQueriesKept s) where
    writable : All (IsWritable s sp) (places_of s sp)
    writable k d below =
        let found = spot_from s sp k below in
        let spot = found.0 in
        let at = found.1 in
        let is : get_or (places_of s sp) k d ≡ place_of s sp spot = get_or_default (places_of s sp) k d nowhere below ∙ place_there s sp k spot at in
        let one = is_one s sp spot at.unit at.query at.class in
        let level = at.level in
        rw is (record {
          code = sound.coded (place_of s sp spot).unit one.unit;
          query = rw (unit_is s sp spot.level spot.unit at.unit).1 (kept spot.level spot.query level at.query).named;
          class = All-contains (λ c. c < cell_count s) (classes_of s (query_at s (level_of sp (place_of s sp spot).unit) spot.query)) (place_of s sp spot).class (small_classes s (query_at s (level_of sp (place_of s sp spot).unit) spot.query)) one.class;
        })

    within : Each (λ x. IsWritable s sp x.0 × IsWithinLimit x.1) measured
    within =
        zip_each (IsWritable s sp) IsWithinLimit _ (places_of s sp) m (λ p z writes limit. (writes, limit))
        (recursion_from_All (IsWritable s sp) (places_of s sp) writable) (recursion_from_All IsWithinLimit m are.few)

    -- ---- the rows of the text
    plain_row : (x : Place × ℤ) → IsWritable s sp x.0 × IsWithinLimit x.1 → cell_count s < 2 ^ 64 → IsPlainRow (row_at x)
    plain_row x h few =
        let writes = h.0 in
        let class = writes.class in
        record {
          some = omega arith;
          fields = (
            plain_name 16 (code_of sp x.0.unit) writes.code,
            (plain_name 32 (query_at s (level_of sp x.0.unit) x.0.query).name writes.query, (plain_decimal x.0.class (omega arith), (plain_signed x.1 h.1, tt))),
          );
        }

    plain_rows : (xs : List (Place × ℤ)) → cell_count s < 2 ^ 64 → Each (λ x. IsWritable s sp x.0 × IsWithinLimit x.1) xs → Each IsPlainRow (map row_at xs)
    plain_rows [] few h = tt
    plain_rows (x ∷ xs) few h = (plain_row x h.0 few, plain_rows xs few h.1)

    plain_header : IsPlainRow header
    plain_header = record {
      some = omega arith;
      fields = (record { filled = omega arith; plain = refl }, (record { filled = omega arith; plain = refl }, (record { filled = omega arith; plain = refl }, (record { filled = omega arith; plain = refl }, tt))));
    }

    text_is : measurements_text s sp m ≡ flat_map row_text (header ∷ rows)
    text_is = ap (λ rest. row_text header ++ rest) (sym (flat_map-map row_text row_at measured))

    no_mark : (rest : List ℕ) → strip_bom (row_text header ++ rest) ≡ row_text header ++ rest
    unfolding strip_bom
    no_mark rest = refl

    module _ (few : cell_count s < 2 ^ 64) where
      rows_are : rows_of (measurements_text s sp m) ≡ header ∷ rows
      rows_are =
          ap (records default_config) (no_mark _ ∙ text_is)
          ∙ rows_back (header ∷ rows) (plain_header, plain_rows measured few within)

      one_width : (xs : List (Place × ℤ)) (n : ℕ) → other_width 4 n (map row_at xs) ≡ None
      one_width [] n = refl
      one_width (x ∷ xs) n = one_width xs (n + 1)

      -- ---- no row has a fault
      long : length rows ≡ length (places_of s sp)
      long = length-map measured row_at ∙ measured_long

      number_back : (k : ℕ) → k < length m → IsWithinLimit (get_or m k (pos 0))
      number_back k below = are.few k (pos 0) below

      row_fine : (k : ℕ) → k < length rows → row_fault s sp k (get_or rows k []) ≡ None
      row_fine k below =
          let in_places : k < length (places_of s sp) = omega (arith, below, long) in
          let in_m : k < length m = omega (arith, in_places, are.size) in
          let z = get_or m k (pos 0) in
          let p = get_or (places_of s sp) k nowhere in
          let is : get_or rows k [] ≡ measurement_row s sp p z =
          get_or-map row_at measured k (nowhere, pos 0) [] (omega (arith, in_places, measured_long))
          ∙ ap row_at (get_or-zip (places_of s sp) m k (nowhere, pos 0) in_places in_m) in
          rw is (no_fault s sp k p (slice_get-get_or (places_of s sp) k nowhere in_places) in_places (measurement_row s sp p z) (same_row-itself (place_fields s sp p)) z (named_back z (number_back k in_m)))

      fine : first_fault (λ e row. row_fault s sp (length e) row) [] rows ≡ None
      fine = fault_free (row_fault s sp) rows [] (λ k below. let same : 0 + k ≡ k = omega arith in ap (λ n. row_fault s sp n (get_or rows k [])) same ∙ row_fine k below)

      enough : file_fault s sp rows ≡ None
      enough = ap (λ b. cond b (Some Missing) None) (le-ltb (length rows) (length (places_of s sp)) (omega (arith, long)))

      values : (xs : List (Place × ℤ)) → Each (λ x. IsWritable s sp x.0 × IsWithinLimit x.1) xs → map number_of (map row_at xs) ≡ map (λ x. x.1) xs
      values [] h = refl
      values (x ∷ xs) h =
          let here = h.0 in
          let number : number_of (row_at x) ≡ x.1 = ap (λ o. unwrap_or o (pos 0)) (named_back x.1 here.1) in
          ap (λ z. z ∷ map number_of (map row_at xs)) number ∙ ap (λ zs. x.1 ∷ zs) (values xs h.1)

      -- what is written is accepted, and gives the measurements back
      pub read_back : read s sp (measurements_text s sp m) ≡ Ok m
      read_back =
          let width : bad_width (header ∷ rows) ≡ None = one_width measured 2 in
          rw (rows_are, width, fine, enough) (ap Ok (values measured within ∙ seconds-zip (places_of s sp) m are.size))

    -- ---- the length of the text
    row_length : (x : Place × ℤ) → IsWritable s sp x.0 × IsWithinLimit x.1 → cell_count s ≤ 4096 → length (row_text (row_at x)) ≤ 67
    row_length x h few =
        let writes = h.0 in
        let small = writes.class in
        let code = name_length 16 (code_of sp x.0.unit) writes.code in
        let query = name_length 32 (query_at s (level_of sp x.0.unit) x.0.query).name writes.query in
        let class = length-decimal-le 4 x.0.class (omega arith) (omega arith) (omega arith) in
        let value = signed_length x.1 h.1 in
        let row = four_length (code_of sp x.0.unit) (query_at s (level_of sp x.0.unit) x.0.query).name (decimal x.0.class) (signed_decimal x.1) in
        omega (arith, row, code, query, class, value)

    row_lengths : (xs : List (Place × ℤ)) → Each (λ x. IsWritable s sp x.0 × IsWithinLimit x.1) xs → cell_count s ≤ 4096 → Each (λ x. length (row_text (row_at x)) ≤ 67) xs
    row_lengths [] h few = tt
    row_lengths (x ∷ xs) h few = (row_length x h.0 few, row_lengths xs h.1 few)

    pub text_length : sp.depth ≡ length s.levels → cell_count s ≤ 4096 → place_count s sp ≤ places_limit → length (measurements_text s sp m) ≤ 2 ^ 30
    text_length belong few limit =
        let body = joined_length (λ x. row_text (row_at x)) 67 measured (row_lengths measured within few) in
        let parts = length-append (row_text header) (flat_map (λ x. row_text (row_at x)) measured) in
        let first : length (row_text header) ≡ 23 = refl in
        let count = count_is s sp sound belong in
        omega (arith, body, parts, first, count, limit, measured_long)
