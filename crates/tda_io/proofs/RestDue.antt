-- Readers that take one row after the other: what they owe, by the rows that are left.
use Rattle.std.proofs.Common.{◌≡◌, ℕ, ◌+◌, ◌<◌, ◌++◌, true, false, List, [], ◌∷◌, length, Option, Some, None, Ok, Err, refl, sym, ap, ◌∙◌, arith}
use Rattle.std.proofs.lemmas.List.{append_assoc, append-nil, length_push}
use Rattle.tda_io.specs.Csv.{Row, Format, first_fault, or_else, same_row, read}
use Rattle.tda_io.specs.Rows.{rows_of}
use Rattle.tda_io.specs.RowReading.{RowsRead, TakesRow, bad_rest, rest_due, unread}

-- ---- the rows after the header
-- the rows that were read since, and what they leave
pub record Passed (start now : RowsRead) (earlier : List Row) : Type 0 where
  pub all : start.rest ≡ earlier ++ now.rest
  pub number : now.number ≡ start.number + length earlier
  pub width : now.width ≡ start.width
  pub bad : bad_rest now ≡ bad_rest start

pub none_passed : (start : RowsRead) → Passed start start []
none_passed start = record { all = refl; number = omega arith; width = refl; bad = refl }

pub passes : (start now new : RowsRead) (earlier : List Row) → 0 < start.number → Passed start now earlier → TakesRow now new → Passed start new (earlier ++ new.row ∷ [])
passes start now new earlier some passed takes = record {
  all = passed.all ∙ ap (λ rows. earlier ++ rows) takes.rest ∙ sym (append_assoc earlier (new.row ∷ []) new.rest);
  number = omega (arith, takes.number, passed.number, length_push earlier new.row);
  width = takes.same (omega (arith, passed.number, some)) ∙ passed.width;
  bad = takes.bad ∙ passed.bad;
}

-- where none is left, all were read
pub all_passed : (start now : RowsRead) (earlier : List Row) → Passed start now earlier → now.rest ≡ [] → start.rest ≡ earlier
all_passed start now earlier passed none = passed.all ∙ ap (λ rows. earlier ++ rows) none ∙ append-nil earlier

module _ {F : Type 0} (judge : List Row → Row → Option F) (earlier : List Row) (row : Row) (rest rows : List Row) (due : Option F) (leads : first_fault judge earlier rows ≡ due) (here : rows ≡ row ∷ rest) where
  now : or_else (judge earlier row) (first_fault judge (earlier ++ row ∷ []) rest) ≡ due
  now = rw here at leads

  -- a row without a fault, and one with
  pub leads_on : judge earlier row ≡ None → first_fault judge (earlier ++ row ∷ []) rest ≡ due
  leads_on fine = let it = now in rw fine at it

  pub leads_to : (f : F) → judge earlier row ≡ Some f → Some f ≡ due
  leads_to f fault = let it = now in rw fault at it

module _ {F A : Type 0} (format : Format F A) where
  module _ (r : RowsRead) where
    pub rest_bad : (n : ℕ) → bad_rest r ≡ Some n → rest_due format r ≡ Err (format.bad_row n)
    rest_bad n bad = rw bad refl

    pub rest_fault : (f : F) → bad_rest r ≡ None → first_fault (format.row_fault r.rest) [] r.rest ≡ Some f → rest_due format r ≡ Err f
    rest_fault f even fault = rw (even, fault) refl

    pub rest_fine : bad_rest r ≡ None → first_fault (format.row_fault r.rest) [] r.rest ≡ None → format.file_fault r.rest ≡ None → rest_due format r ≡ Ok (format.value r.rest)
    rest_fine even fine whole = rw (even, fine, whole) refl

    pub rest_whole : (f : F) → bad_rest r ≡ None → first_fault (format.row_fault r.rest) [] r.rest ≡ None → format.file_fault r.rest ≡ Some f → rest_due format r ≡ Err f
    rest_whole f even fine whole = rw (even, fine, whole) refl

  -- ---- the whole text
  module _ (text : List ℕ) where
    pub text_bad : (n : ℕ) → bad_rest (unread text) ≡ Some n → read format text ≡ Err (format.bad_row n)
    text_bad n bad = rw bad refl

    pub no_rows : (unread text).rest ≡ [] → read format text ≡ Err (format.bad_header 1)
    no_rows none = rw none refl

    module _ (first : RowsRead) (takes : TakesRow (unread text) first) where
      pub header_bad : (n : ℕ) → bad_rest first ≡ Some n → read format text ≡ Err (format.bad_row n)
      header_bad n bad = text_bad n (sym takes.bad ∙ bad)

      pub other_header : same_row format.header first.row ≡ false → bad_rest first ≡ None → read format text ≡ Err (format.bad_header 1)
      other_header other even =
          let even_text : bad_rest (unread text) ≡ None = sym takes.bad ∙ even in
          let rows : rows_of text ≡ first.row ∷ first.rest = takes.rest in
          rw (even_text, rows, other) refl

      -- after the header
      pub after_the_header : same_row format.header first.row ≡ true → read format text ≡ rest_due format first
      after_the_header header =
          let rows : rows_of text ≡ first.row ∷ first.rest = takes.rest in
          rw (← takes.bad, rows, header) refl
