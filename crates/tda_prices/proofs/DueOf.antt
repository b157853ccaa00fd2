-- What a file of prices is due to give, as what its rows are due for their places.
use Rattle.std.proofs.Common.{◌≡◌, ◌≢◌, ℕ, ◌+◌, ◌-◌, ◌<◌, ◌≤◌, Bool, true, false, not, cond, List, [], ◌∷◌, ◌++◌, length, get_or, map, take, Option, Some, None, Result, Ok, Err, ℤ, pos, is_none, nat_lt, nat_le, refl, sym, ap, ◌∙◌, arith, length-append, append_assoc, append-nil}
use Rattle.std.specs.Prelude.{option_map, unwrap_or, slice_get}
use Rattle.std.proofs.lemmas.Bool.{le-ltb, lt-ltb, le-leb, lt-leb}
use Rattle.std.proofs.lemmas.List.{get_or-append_right, length_push}
use Rattle.std.proofs.lemmas.Option.{slice_get-get_or, slice_get_past}
use Rattle.tda_io.specs.Csv.{Row, first_fault, or_else, same_row}
use Rattle.tda_io.specs.Due.{◌>>◌, none_of}
use Rattle.tda_io.specs.RowReading.{RowsRead, TakesRow, EndsRows, bad_rest, rest_due}
use Rattle.tda_model.specs.Schema.{Schema}
use Rattle.tda_model.specs.Spine.{Spine}
use Rattle.tda_prices.specs.Left.{price_in_row, names_place, placed_fault, past_fault, following, left_due, due, Reads, Stops}
use Rattle.tda_prices.specs.Numbered.{row_fault}
use Rattle.tda_prices.specs.PricesText.{format, price_limit, faults, places_of}
use Rattle.tda_prices.specs.declared.fault.PriFault.{PriFault}
use Rattle.tda_prices.specs.declared.fault.PriFault.TheVariants.{BadRow, WrongPlace, BadNumber, Missing, TooMany, NoMemory}
use Rattle.tda_prices.proofs.Reading.{ended_due, past_due}

abbrev price : Row → ℤ
price row = unwrap_or (price_in_row row) (pos 0)

ahead : (z : ℤ) (zs : List ℤ) (x y : Option PriFault) → (none_of x >> none_of y >> Ok (z ∷ zs)) ≡ following (z ∷ []) (none_of x >> none_of y >> Ok zs)
ahead z zs (Some f) y = refl
ahead z zs None (Some f) = refl
ahead z zs None None = refl

module _ (all : List Row) where
  abbrev judge : List Row → Row → Option PriFault
  judge earlier row = row_fault faults all 4 price_limit (length earlier) row

  -- the fault of a row whose place is this, and of one that has none
  abbrev by_place : Option Row → ℕ → Row → Option PriFault
  by_place o index row =
      cond (elim o as (λ _. Bool) [ Some fields ↦ not (same_row fields (take 4 row)) | None ↦ false ]) (Some (WrongPlace (index + 2)))
      (cond (is_none (price_in_row row)) (Some (BadNumber (index + 2))) (cond (nat_le (length all) index) (Some (TooMany (index + 2))) None))

  has_place : (index : ℕ) (place row : Row) → slice_get all index ≡ Some place → index < length all → row_fault faults all 4 price_limit index row ≡ placed_fault (index + 2) place row
  has_place index place row there below =
      ap (λ o. by_place o index row) there
      ∙ ap (λ b. cond (not (names_place place row)) (Some (WrongPlace (index + 2))) (cond (is_none (price_in_row row)) (Some (BadNumber (index + 2))) (cond b (Some (TooMany (index + 2))) None))) (lt-leb (length all) index below)

  has_none : (index : ℕ) (row : Row) → length all ≤ index → row_fault faults all 4 price_limit index row ≡ Some (past_fault (index + 2) row)
  has_none index row past =
      ap (λ o. by_place o index row) (slice_get_past all index past)
      ∙ ap (λ b. cond (is_none (price_in_row row)) (Some (BadNumber (index + 2))) (cond b (Some (TooMany (index + 2))) None)) (le-leb (length all) index past)
      ∙ by (is_none (price_in_row row))
    where
      by : (b : Bool) → cond b (Some (BadNumber (index + 2))) (Some (TooMany (index + 2))) ≡ Some (cond b (BadNumber (index + 2)) (TooMany (index + 2)))
      by true = refl
      by false = refl

  abbrev whole : ℕ → List Row → List Row → Result (List ℤ) PriFault
  whole n earlier rows =
      none_of (first_fault judge earlier rows) >> none_of (cond (nat_lt (n + length rows) (length all)) (Some Missing) None) >> Ok (map price rows)

  left_is : (n : ℕ) (before places earlier rows : List Row) → all ≡ before ++ places → length before ≡ n → length earlier ≡ n → whole n earlier rows ≡ left_due (n + 1) places rows
  left_is n before [] earlier [] e lb le =
      let size = ap length e ∙ length-append before [] in
      ap (λ b. none_of (cond b (Some Missing) None) >> Ok []) (le-ltb (n + 0) (length all) (omega (arith, size)))
  left_is n before (place ∷ places) earlier [] e lb le =
      let size = ap length e ∙ length-append before (place ∷ places) in
      ap (λ b. none_of (cond b (Some Missing) None) >> Ok []) (lt-ltb (n + 0) (length all) (omega (arith, size)))
  left_is n before [] earlier (row ∷ rows) e lb le =
      let size = ap length e ∙ length-append before [] in
      let two : length earlier + 2 ≡ n + 1 + 1 = omega arith in
      let fault : judge earlier row ≡ Some (past_fault (n + 1 + 1) row) = has_none (length earlier) row (omega (arith, size)) ∙ ap (λ m. Some (past_fault m row)) two in
      ap (λ o. none_of (or_else o (first_fault judge (earlier ++ row ∷ []) rows)) >> none_of (cond (nat_lt (n + length (row ∷ rows)) (length all)) (Some Missing) None) >> Ok (map price (row ∷ rows))) fault
  left_is n before (place ∷ places) earlier (row ∷ rows) e lb le =
      let size = ap length e ∙ length-append before (place ∷ places) in
      let two : length earlier + 2 ≡ n + 1 + 1 = omega arith in
      let zero_left : length earlier - n ≡ 0 = omega arith in
      let there : slice_get all (length earlier) ≡ Some place =
      slice_get-get_or all (length earlier) [] (omega (arith, size))
      ∙ ap (λ rs. Some (get_or rs (length earlier) [])) e
      ∙ ap Some (get_or-append_right before (place ∷ places) n (length earlier) [] lb (omega arith))
      ∙ ap (λ k. Some (get_or (place ∷ places) k [])) zero_left in
      let fault : judge earlier row ≡ placed_fault (n + 1 + 1) place row = has_place (length earlier) place row there (omega (arith, size)) ∙ ap (λ m. placed_fault m place row) two in
      let long : n + length (row ∷ rows) ≡ n + 1 + length rows = omega arith in
      let next = left_is (n + 1) (before ++ place ∷ []) places (earlier ++ row ∷ []) rows (e ∙ sym (append_assoc before (place ∷ []) places)) (omega (arith, length_push before place)) (omega (arith, length_push earlier row)) in
      ap (λ o. none_of (or_else o (first_fault judge (earlier ++ row ∷ []) rows)) >> none_of (cond (nat_lt (n + length (row ∷ rows)) (length all)) (Some Missing) None) >> Ok (map price (row ∷ rows))) fault
      ∙ ap (λ m. none_of (or_else (placed_fault (n + 1 + 1) place row) (first_fault judge (earlier ++ row ∷ []) rows)) >> none_of (cond (nat_lt m (length all)) (Some Missing) None) >> Ok (map price (row ∷ rows))) long
      ∙ by (placed_fault (n + 1 + 1) place row) next
    where
      by : (o : Option PriFault) → whole (n + 1) (earlier ++ row ∷ []) rows ≡ left_due (n + 1 + 1) places rows
          → (none_of (or_else o (first_fault judge (earlier ++ row ∷ []) rows)) >> none_of (cond (nat_lt (n + 1 + length rows) (length all)) (Some Missing) None) >> Ok (price row ∷ map price rows))
          ≡ (none_of o >> following (price row ∷ []) (left_due (n + 1 + 1) places rows))
      by (Some f) next = refl
      by None next = ahead (price row) (map price rows) (first_fault judge (earlier ++ row ∷ []) rows) (cond (nat_lt (n + 1 + length rows) (length all)) (Some Missing) None) ∙ ap (following (price row ∷ [])) next

-- after the header
pub rest_is : (s : Schema) (sp : Spine) (r : RowsRead) → r.number ≡ 1 → rest_due (format s sp) r ≡ due (places_of s sp) r
rest_is s sp r first =
    let all = places_of s sp in
    let none_before : length r.rest ≡ 0 + length r.rest = omega arith in
    let one : 0 + 1 ≡ r.number = omega arith in
    ap (λ t. none_of (option_map BadRow (bad_rest r)) >> t)
    (ap (λ m. none_of (first_fault (judge all) [] r.rest) >> none_of (cond (nat_lt m (length all)) (Some Missing) None) >> Ok (map price r.rest)) none_before
    ∙ left_is all 0 [] all [] r.rest refl refl refl ∙ ap (λ n. left_due n all r.rest) one)

-- ---- where all rows that have a place were read
module _ (s : Schema) (sp : Spine) (old mid : RowsRead) (first : old.number ≡ 1) (numbers : List ℤ) (reads : Reads (places_of s sp) [] old mid [] numbers) where
  at_end : rest_due (format s sp) old ≡ following reads.prices (due [] mid)
  at_end = rest_is s sp old first ∙ ap (λ ps. due ps old) (sym (append-nil (places_of s sp))) ∙ reads.gives []

  pub end_stops : (f : PriFault) → Stops [] mid f → f ≢ NoMemory → rest_due (format s sp) old ≡ Err f
  end_stops f stops other = at_end ∙ ap (following reads.prices) (stops other [])

  pub end_fault : (new : RowsRead) → TakesRow mid new → bad_rest new ≡ None → rest_due (format s sp) old ≡ Err (past_fault new.number new.row)
  end_fault new takes even = at_end ∙ ap (following reads.prices) (past_due mid new takes even)

  pub ended : (new : RowsRead) → EndsRows mid new → rest_due (format s sp) old ≡ Ok numbers
  ended new ends = at_end ∙ ap (following reads.prices) (ended_due mid new ends) ∙ ap Ok (append-nil reads.prices ∙ sym reads.appended)

pub all_stops : (s : Schema) (sp : Spine) (old : RowsRead) → old.number ≡ 1 → (f : PriFault) → Stops (places_of s sp) old f → f ≢ NoMemory → rest_due (format s sp) old ≡ Err f
all_stops s sp old first f stops other = rest_is s sp old first ∙ ap (λ ps. due ps old) (sym (append-nil (places_of s sp))) ∙ stops other []
