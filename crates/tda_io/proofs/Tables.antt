-- Rows of one width, from the fields that stand one after the other.
use Rattle.std.proofs.Common.{◌≡◌, ◌≢◌, ◌+◌, ◌-◌, ◌*◌, ◌<◌, ◌≤◌, ◌++◌, ◌∷◌, [], ℕ, zero, suc, List, length, take, drop, get_or, Some, None, refl, sym, ap, ◌∙◌, arith, inl, inr}
use Rattle.std.proofs.lemmas.Bool.{cases_Bool, eq-eqb, eqb-true}
use Rattle.std.proofs.Math.Nat.{mul_comm, suc-mul}
use Rattle.std.proofs.Math.Seq.{drop-append_seam}
use Rattle.std.proofs.lemmas.Nat.{mul-add-lt}
use Rattle.csv.specs.Records.{Rising, cut_from, field_at, last_end, prev}
use Rattle.csv.proofs.RecordFacts.{cut-end, cut-length, cut-more, field-bounds, field-cut, field-get, last-append, rising-end, rising-more}
use Rattle.std.proofs.lemmas.List.{take_more, take-append-drop, append_assoc, length-take-le, length-drop, take_all, take-append-le, drop-append-le, get_or-take, get_or-drop, length-append}
use Rattle.std.specs.Prelude.{◌==◌}
use Rattle.tda_io.specs.Rows.{bad_width, other_width, row_width, field_of}
use Rattle.tda_io.specs.Table.{rows_by, row_size, table_rows, IsTable}

pub length-rows_by : (width count : ℕ) (fields : List (List ℕ)) → length (rows_by width count fields) ≡ count
length-rows_by width zero fields = refl
length-rows_by width (suc count) fields = ap suc (length-rows_by width count (drop width fields))

-- there is room for one row more
first_fits : (width count : ℕ) (fields : List (List ℕ)) → length fields ≡ suc count * width → width ≤ length fields
first_fits width count fields whole = let product = suc-mul count width in omega (arith, whole, product)

others_are : (width count : ℕ) (fields : List (List ℕ)) → length fields ≡ suc count * width → length (drop width fields) ≡ count * width
others_are width count fields whole =
    let product = suc-mul count width in
    let size = length-drop width fields in
    omega (arith, whole, product, size)

pub width-rows_by : (width count : ℕ) (fields : List (List ℕ)) → length fields ≡ count * width → (count ≡ 0 → width ≡ 0) → row_width (rows_by width count fields) ≡ width
width-rows_by width zero fields whole none = sym (none refl)
width-rows_by width (suc count) fields whole none = length-take-le width fields (first_fits width count fields whole)

-- the field at a row and a column
pub field-rows_by : (width count : ℕ) (fields : List (List ℕ)) (row col : ℕ) → row < count → col < width → field_of (rows_by width count fields) row col ≡ get_or fields (row * width + col) []
field-rows_by width zero fields row col within inside = absurd (omega arith)
field-rows_by width (suc count) fields zero col within inside =
    let same : 0 * width + col ≡ col = omega arith in
    rw same (get_or-take width fields col [] inside)
field-rows_by width (suc count) fields (suc row) col within inside =
    let same : suc row * width + col ≡ width + (row * width + col) = let product = suc-mul row width in omega (arith, product) in
    rw same (field-rows_by width count (drop width fields) row col (omega arith) inside ∙ get_or-drop width fields (row * width + col) [])

-- one more row
pub rows_by-more : (width count : ℕ) (fields row : List (List ℕ)) → length fields ≡ count * width → length row ≡ width
    → rows_by width (count + 1) (fields ++ row) ≡ rows_by width count fields ++ row ∷ []
rows_by-more width zero [] row whole wide = ap (λ r. r ∷ []) (take_all width row (omega (arith, wide)))
rows_by-more width zero (f ∷ fields) row whole wide = absurd (omega (arith, whole))
rows_by-more width (suc count) fields row whole wide =
    let fits = first_fits width count fields whole in
    let step : suc count + 1 ≡ suc (count + 1) = omega arith in
    rw (step, take-append-le width fields row fits, drop-append-le width fields row fits)
    (ap (λ rows. take width fields ∷ rows) (rows_by-more width count (drop width fields) row (others_are width count fields whole) wide))

-- rows of one width have no other
other-rows_by : (width number count : ℕ) (fields : List (List ℕ)) → length fields ≡ count * width → other_width width number (rows_by width count fields) ≡ None
other-rows_by width number zero fields whole = refl
other-rows_by width number (suc count) fields whole =
    let wide = length-take-le width fields (first_fits width count fields whole) in
    rw (wide, eq-eqb width width refl) (other-rows_by width (number + 1) count (drop width fields) (others_are width count fields whole))

pub even : (width count : ℕ) (fields : List (List ℕ)) → length fields ≡ count * width → bad_width (rows_by width count fields) ≡ None
even width zero fields whole = refl
even width (suc count) fields whole =
    let wide = length-take-le width fields (first_fits width count fields whole) in
    rw wide (other-rows_by width 2 count (drop width fields) (others_are width count fields whole))

-- after rows of one width, the first that has another
other-next : (width number count : ℕ) (fields row : List (List ℕ)) (more : List (List (List ℕ))) → length fields ≡ count * width → length row ≢ width
    → other_width width number (rows_by width count fields ++ row ∷ more) ≡ Some (number + count)
other-next width number zero fields row more whole other = elim (cases_Bool (length row == width)) [
  | inl is ↦ absurd (other (eqb-true _ _ is))
  | inr differs ↦ rw differs (ap Some (omega arith))
]
other-next width number (suc count) fields row more whole other =
    let wide = length-take-le width fields (first_fits width count fields whole) in
    rw (wide, eq-eqb width width refl) (other-next width (number + 1) count (drop width fields) row more (others_are width count fields whole) other ∙ ap Some (omega arith))

pub uneven : (width count : ℕ) (fields row : List (List ℕ)) (more : List (List (List ℕ))) → 0 < count → length fields ≡ count * width → length row ≢ width
    → bad_width (rows_by width count fields ++ row ∷ more) ≡ Some (count + 1)
uneven width zero fields row more some whole other = absurd (omega arith)
uneven width (suc count) fields row more some whole other =
    let wide = length-take-le width fields (first_fits width count fields whole) in
    rw wide (other-next width 2 count (drop width fields) row more (others_are width count fields whole) other ∙ ap Some (omega arith))

-- where the field at a row and a column stands
pub record Place (width count : ℕ) (ends bytes : List ℕ) (row col : ℕ) : Type 0 where
  pub within : row * width + col < length ends
  pub order : prev 0 ends (row * width + col) ≤ get_or ends (row * width + col) 0
  pub fits : get_or ends (row * width + col) 0 ≤ length bytes
  pub is : take (get_or ends (row * width + col) 0 - prev 0 ends (row * width + col)) (drop (prev 0 ends (row * width + col)) bytes) ≡ field_of (table_rows width count ends bytes) row col

pub place : (width count : ℕ) (ends bytes : List ℕ) (row col : ℕ) → IsTable width count ends bytes → row < length (table_rows width count ends bytes) → col < row_width (table_rows width count ends bytes) → Place width count ends bytes row col
place width count ends bytes row col table in_rows in_row =
    let cut = cut-length 0 ends bytes in
    let below : row < count = omega (arith, in_rows, length-rows_by width count (cut_from 0 ends bytes)) in
    let left : col < width = omega (arith, in_row, width-rows_by width count (cut_from 0 ends bytes) (cut ∙ table.whole) table.none) in
    let within : row * width + col < length ends = let product = mul-add-lt row width col count below left in let turned = mul_comm width count in omega (arith, product, turned, table.whole) in
    let bounds = field-bounds 0 ends (length bytes) (row * width + col) table.rising within in
    record {
      within = within;
      order = bounds.0;
      fits = bounds.1;
      is = sym (field-get _ _ _ (field-cut 0 ends bytes (row * width + col) within)) ∙ sym (field-rows_by width count (cut_from 0 ends bytes) row col below left);
    }

field-within : (fields : List (List ℕ)) (i : ℕ) (field : List ℕ) → Some field ≡ field_at fields i → i < length fields
unfolding field_at
field-within [] i field e = cc e
field-within (f ∷ fs) zero field e = omega arith
field-within (f ∷ fs) (suc i) field e = let within = field-within fs i field e in omega (arith, within)

field-past : (fields : List (List ℕ)) (i : ℕ) → None ≡ field_at fields i → length fields ≤ i
unfolding field_at
field-past [] i e = omega arith
field-past (f ∷ fs) zero e = cc e
field-past (f ∷ fs) (suc i) e = let past = field-past fs i e in omega (arith, past)

pub row_size-append : (xs ys : List (List ℕ)) → row_size (xs ++ ys) ≡ row_size xs + row_size ys
row_size-append [] ys = omega arith
row_size-append (x ∷ xs) ys = let more = row_size-append xs ys in omega (arith, more)

-- the fields that were appended so far
pub record Pushed (before row : List (List ℕ)) (start at : ℕ) (ends bytes : List ℕ) : Type 0 where
  pub within : at ≤ length row
  pub cut : cut_from 0 ends bytes ≡ before ++ take at row
  pub rising : Rising 0 ends (length bytes)
  pub full : last_end 0 ends ≡ length bytes
  pub size : length bytes ≡ start + row_size (take at row)

pub pushed : (before row : List (List ℕ)) (size at : ℕ) (ends bytes field : List ℕ) → Pushed before row size at ends bytes → Some field ≡ field_at row at
    → Pushed before row size (at + 1) (ends ++ length (bytes ++ field) ∷ []) (bytes ++ field)
pushed before row size at ends bytes field so_far there =
    let below : at < length row = field-within row at field there in
    let is : get_or row at [] ≡ field = field-get row at field (sym there) in
    let next : take (at + 1) row ≡ take at row ++ field ∷ [] = rw is at (take_more row at [] below) in
    let long = length-append bytes field in
    let rising = rising-more 0 ends (length bytes) (length (bytes ++ field)) so_far.rising (omega (arith, long)) in
    record {
      within = omega (arith, below);
      cut = rw (cut-end 0 ends (bytes ++ field) rising, so_far.full, cut-more 0 ends bytes field so_far.rising, drop-append_seam bytes field, so_far.cut, next) (append_assoc before (take at row) (field ∷ []));
      rising = rising-end 0 ends (length (bytes ++ field)) rising;
      full = last-append 0 ends (length (bytes ++ field));
      size = let more = row_size-append (take at row) (field ∷ []) in rw next (omega (arith, long, so_far.size, more));
    }

pub row_size-take : (at : ℕ) (row : List (List ℕ)) → row_size (take at row) ≤ row_size row
row_size-take at row = let both = row_size-append (take at row) (drop at row) in omega (arith, rw (take-append-drop at row) at both)

-- one more row, of the same width or the first
pub more_rows : (width count : ℕ) (fields row : List (List ℕ)) → length fields ≡ count * width → (0 < count → length row ≡ width)
    → (rows_by (length row) (count + 1) (fields ++ row) ≡ rows_by width count fields ++ row ∷ []) × (length (fields ++ row) ≡ (count + 1) * length row)
more_rows width zero fields row whole same =
    let none : length fields ≡ 0 * length row = omega (arith, whole) in
    let long = length-append fields row in
    (rows_by-more (length row) 0 fields row none refl, omega (arith, long, whole))
more_rows width (suc count) fields row whole same =
    let wide = same (omega arith) in
    let step : suc count + 1 ≡ suc (suc count) = omega arith in
    let product = suc-mul (suc count) width in
    let long = length-append fields row in
    (rw wide (rows_by-more width (suc count) fields row whole wide), rw (wide, step) (omega (arith, long, whole, product, wide)))

-- every field was appended
pub all_pushed : (before row : List (List ℕ)) (start at : ℕ) (ends bytes : List ℕ) → Pushed before row start at ends bytes → None ≡ field_at row at
    → (cut_from 0 ends bytes ≡ before ++ row) × (length bytes ≡ start + row_size row)
all_pushed before row start at ends bytes so_far none =
    let all : length row ≤ at = field-past row at none in
    let whole : take at row ≡ row = take_all at row all in
    (rw whole at so_far.cut, rw whole at so_far.size)
