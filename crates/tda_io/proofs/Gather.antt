-- The rows that were read so far, and those that a reader has left.
use Rattle.std.proofs.Common.{◌≡◌, ◌≢◌, ◌+◌, ◌*◌, ◌<◌, ◌≤◌, ◌++◌, ◌∷◌, [], ℕ, List, Bor, true, false, length, Option, Some, None, refl, sym, ap, ◌∙◌, arith}
use Rattle.std.proofs.lemmas.List.{append_assoc, append-nil}
use Rattle.csv.specs.Reading.{ReadRecord, Ready, default_config, source_of, strip_bom}
use Rattle.csv.specs.Records.{Rising, cut_from, last_end}
use Rattle.csv.specs.declared.parser.State.TheVariants as st
use Rattle.csv.specs.declared.reader.Reader.{Reader}
use Rattle.csv.specs.declared.reader.Trim.TheVariants as trim
use Rattle.csv.proofs.RecordFacts.{cut-length}
use Rattle.tda_io.specs.RowReading.{Reads, rest_of}
use Rattle.tda_io.specs.Rows.{bad_width, rows_of}
use Rattle.tda_io.specs.Table.{row_size, table_rows, IsTable}
use Rattle.tda_io.proofs.AllRows.{last, next, strip_bom-shorter}
use Rattle.tda_io.proofs.Tables.{even, more_rows, uneven}

abbrev pub size_of : Option (List ℕ) → ℕ
size_of None = 0
size_of (Some xs) = length xs

-- how many bytes a reader has left
abbrev pub left_size : Reader (Bor (List ℕ)) → ℕ
left_size reader = size_of (source_of (λ s. Some s.now) reader)

pub record Gathers (text : List ℕ) (reader : Reader (Bor (List ℕ))) (width count : ℕ) (ends bytes : List ℕ) : Type 0 where
  pub left : List ℕ
  pub reads : Reads reader left
  pub rows : table_rows width count ends bytes ++ rest_of reader.state left ≡ rows_of text
  pub room : length bytes + length left ≤ length text
  pub fewer : count + length left ≤ length text
  pub table : IsTable width count ends bytes
  pub full : last_end 0 ends ≡ length bytes

-- nothing was read
pub starts : (text : List ℕ) (reader : Reader (Bor (List ℕ))) → reader.trim ≡ trim.None → Ready reader → reader.config ≡ default_config → reader.state ≡ st.StartRecord
    → source_of (λ s. Some s.now) reader ≡ Some (strip_bom text) → Gathers text reader 0 0 [] []
unfolding Rising last_end
starts text reader plain ready config state source =
    let shorter = strip_bom-shorter text in
    record {
      left = strip_bom text;
      reads = record { plain = plain; ready = ready; config = config; between = rw state refl; source = source };
      rows = rw state refl;
      room = omega (arith, shorter);
      fewer = omega (arith, shorter);
      table = record { rising = omega arith; whole = refl; none = λ e. refl };
      full = refl;
    }

module _ (text : List ℕ) (reader reader2 : Reader (Bor (List ℕ))) (width count : ℕ) (ends bytes : List ℕ) (row : List (List ℕ)) (gathers : Gathers text reader width count ends bytes) where
  whole : length (cut_from 0 ends bytes) ≡ count * width
  whole = cut-length 0 ends bytes ∙ gathers.table.whole

  -- no row is left
  pub ends_with : ReadRecord (λ s. Some s.now) reader reader2 false row → table_rows width count ends bytes ≡ rows_of text
  ends_with read =
      let none = last reader reader2 gathers.left row gathers.reads read in
      sym (append-nil _) ∙ (rw none at gathers.rows)

  pub fine : ReadRecord (λ s. Some s.now) reader reader2 false row → bad_width (rows_of text) ≡ None
  fine read = rw (← ends_with read) (even width count (cut_from 0 ends bytes) whole)

  module _ (read : ReadRecord (λ s. Some s.now) reader reader2 true row) (first : reader2.first ≡ true) where
    -- a row of another width
    pub bad : 0 < count → length row ≢ width → bad_width (rows_of text) ≡ Some (count + 1)
    bad some other =
        let one = next reader reader2 gathers.left row gathers.reads read first in
        rw (← gathers.rows, one.leaves.rows) (uneven width count (cut_from 0 ends bytes) row (rest_of reader2.state one.left2) some whole other)

    pub fits : length bytes + row_size row ≤ length text
    fits =
        let one = next reader reader2 gathers.left row gathers.reads read first in
        omega (arith, one.leaves.bytes, gathers.room)

    pub counts : count < length text
    counts =
        let one = next reader reader2 gathers.left row gathers.reads read first in
        omega (arith, one.leaves.shorter, gathers.fewer)

    pub smaller : left_size reader2 < left_size reader
    smaller =
        let one = next reader reader2 gathers.left row gathers.reads read first in
        rw (gathers.reads.source, one.reads.source) one.leaves.shorter

    -- one more row
    pub goes : (ends2 bytes2 : List ℕ) → (0 < count → length row ≡ width) → cut_from 0 ends2 bytes2 ≡ cut_from 0 ends bytes ++ row
        → Rising 0 ends2 (length bytes2) → last_end 0 ends2 ≡ length bytes2 → length bytes2 ≡ length bytes + row_size row → Gathers text reader2 (length row) (count + 1) ends2 bytes2
    goes ends2 bytes2 same cut rising full size =
        let one = next reader reader2 gathers.left row gathers.reads read first in
        let more = more_rows width count (cut_from 0 ends bytes) row whole same in
        record {
          left = one.left2;
          reads = one.reads;
          rows = rw (cut, more.0, append_assoc (table_rows width count ends bytes) (row ∷ []) (rest_of reader2.state one.left2)) (rw one.leaves.rows at gathers.rows);
          room = omega (arith, size, one.leaves.bytes, gathers.room);
          fewer = omega (arith, one.leaves.shorter, gathers.fewer);
          table = record { rising = rising; whole = sym (cut-length 0 ends2 bytes2) ∙ ap length cut ∙ more.1; none = λ e. absurd (omega (arith, e)) };
          full = full;
        }
