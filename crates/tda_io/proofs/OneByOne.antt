-- One row of a text after the other.
use Rattle.std.proofs.Common.{◌≡◌, ◌≢◌, ◌+◌, ◌<◌, ◌≤◌, ◌^◌, ◌∷◌, [], ℕ, List, Bor, true, false, length, Option, Some, None, refl, sym, ◌∙◌, arith, inl, inr}
use Rattle.std.specs.Prelude.{◌==◌, IsSome, option_map}
use Rattle.std.proofs.lemmas.Bool.{cases_Bool, eq-eqb, eqb-true, eqb-false}
use Rattle.csv.specs.Reading.{ReadRecord, Ready, default_config, source_of, strip_bom}
use Rattle.csv.specs.Records.{field_at}
use Rattle.csv.specs.declared.parser.State.TheVariants as st
use Rattle.csv.specs.declared.reader.Reader.{Reader}
use Rattle.csv.specs.declared.reader.Trim.TheVariants as trim
use Rattle.csv.proofs.RecordFacts.{field-there}
use Rattle.tda_io.specs.Csv.{Row}
use Rattle.tda_io.specs.Rows.{bad_width, other_width, rows_of}
use Rattle.tda_io.specs.RowReading.{RowsRead, TakesRow, EndsRows, IsReading, bad_rest, left_of, rest_of}
use Rattle.tda_io.proofs.AllRows.{last, next, strip_bom-shorter}

-- a reader before the first row
pub starts : (text : List ℕ) (reader : Reader (Bor (List ℕ))) → length text ≤ 2 ^ 30 → reader.trim ≡ trim.None → Ready reader → reader.config ≡ default_config
    → reader.state ≡ st.StartRecord → source_of (λ s. Some s.now) reader ≡ Some (strip_bom text) → IsReading reader 0
starts text reader limit plain ready config state source =
    let shorter = strip_bom-shorter text in
    let left : left_of reader ≡ strip_bom text = rw source refl in
    record {
      reads = record { plain = plain; ready = ready; config = config; between = rw state refl; source = rw left source };
      few = rw left (omega (arith, shorter));
    }

pub starts_rest : (text : List ℕ) (reader : Reader (Bor (List ℕ))) → reader.state ≡ st.StartRecord → source_of (λ s. Some s.now) reader ≡ Some (strip_bom text)
    → rest_of reader.state (left_of reader) ≡ rows_of text
starts_rest text reader state source = rw (state, source) refl

module _ (reader reader2 : Reader (Bor (List ℕ))) (number : ℕ) (row : Row) (reading : IsReading reader number) where
  -- no row is left
  pub ended : ReadRecord (λ s. Some s.now) reader reader2 false row → rest_of reader.state (left_of reader) ≡ []
  ended read = last reader reader2 (left_of reader) row reading.reads read

  module _ (read : ReadRecord (λ s. Some s.now) reader reader2 true row) (first : reader2.first ≡ true) where
    -- one row less is left
    pub rest : rest_of reader.state (left_of reader) ≡ row ∷ rest_of reader2.state (left_of reader2)
    rest =
        let one = next reader reader2 (left_of reader) row reading.reads read first in
        let left : left_of reader2 ≡ one.left2 = rw one.reads.source refl in
        rw left one.leaves.rows

    pub goes_on : IsReading reader2 (number + 1)
    goes_on =
        let one = next reader reader2 (left_of reader) row reading.reads read first in
        let left : left_of reader2 ≡ one.left2 = rw one.reads.source refl in
        record { reads = rw left one.reads; few = rw left (omega (arith, one.leaves.shorter, reading.few)) }

    pub fits : number + 1 < 2 ^ 64
    fits =
        let one = next reader reader2 (left_of reader) row reading.reads read first in
        omega (arith, one.leaves.shorter, reading.few)

-- after a row, the first that differs is sought by its width
later : (r : RowsRead) → 0 < r.number → bad_rest r ≡ other_width r.width (r.number + 1) r.rest
later r some = elim (cases_Bool (r.number == 0)) [
  | inl none ↦ absurd (omega (arith, some, eqb-true _ _ none))
  | inr there ↦ rw there refl
]

before : (r : RowsRead) → r.number ≡ 0 → bad_rest r ≡ bad_width r.rest
before r none = rw none refl

-- a row of the width of those before it, or the first
module _ (old new : RowsRead) (rest : old.rest ≡ new.row ∷ new.rest) (number : new.number ≡ old.number + 1) (width : new.width ≡ length new.row) (same : 0 < old.number → new.width ≡ old.width) (sound : old.failed ≡ false) (stays : new.failed ≡ false) where
  bad_first : old.number ≡ 0 → bad_rest new ≡ bad_rest old
  bad_first none =
      let two : new.number + 1 ≡ 2 = omega (arith, number, none) in
      later new (omega (arith, number)) ∙ rw (two, width) (sym (before old none ∙ rw rest refl))

  bad_later : 0 < old.number → bad_rest new ≡ bad_rest old
  bad_later some =
      let wide : length new.row ≡ old.width = sym width ∙ same some in
      later new (omega (arith, number)) ∙ rw (same some, number) (sym (later old some ∙ rw (rest, wide, eq-eqb old.width old.width refl) refl))

  pub takes : TakesRow old new
  takes = record {
    rest = rest;
    number = number;
    width = width;
    same = same;
    bad = elim (cases_Bool (old.number == 0)) [
      | inl none ↦ bad_first (eqb-true _ _ none)
      | inr there ↦ bad_later (omega (arith, eqb-false _ _ there))
    ];
    sound = sound;
    stays_sound = stays;
  }

-- a row of another width
pub differs : (old : RowsRead) (row : Row) (rest : List Row) → old.rest ≡ row ∷ rest → 0 < old.number → length row ≢ old.width → bad_rest old ≡ Some (old.number + 1)
differs old row rest is some other = later old some ∙ elim (cases_Bool (length row == old.width)) [
  | inl equal ↦ absurd (other (eqb-true _ _ equal))
  | inr not_equal ↦ rw (is, not_equal) refl
]

-- nothing is left to differ
no_rest : (old : RowsRead) → old.rest ≡ [] → bad_rest old ≡ None
no_rest old none = elim (cases_Bool (old.number == 0)) [
  | inl is ↦ rw (none, is) refl
  | inr other ↦ rw (none, other) refl
]

-- a field that the row has
pub is_there : (fields : Row) (col : ℕ) → col < length fields → (o : Option (Bor (List ℕ))) → option_map (λ s. s.now) o ≡ field_at fields col → IsSome o
is_there fields col within None is = absurd (field-there fields col within (sym is))
is_there fields col within (Some s) is = refl

pub ends : (old new : RowsRead) → old.rest ≡ [] → new.rest ≡ [] → new.number ≡ old.number → new.width ≡ old.width → old.failed ≡ false → new.failed ≡ false → EndsRows old new
ends old new gone still number width sound stays =
    record { none = gone; even = no_rest old gone; stays = still; stays_even = no_rest new still; number = number; width = width; sound = sound; stays_sound = stays }
