-- The rows of a text, read one after the other.
use Rattle.std.specs.Prelude.{◌≡◌, ◌+◌, ◌<◌, ◌^◌, ◌==◌, ℕ, Bool, true, false, List, [], ◌∷◌, length, Option, Some, None, option_map, unwrap_or, Result, Ok, Err, if◌then◌else◌}
use Rattle.std.specs.Borrow.{Bor}
use Rattle.csv.specs.Machine.{ends_at_end}
use Rattle.csv.specs.Reading.{Ready, default_config, records_from, source_of}
use Rattle.csv.specs.declared.parser.State.{State}
use Rattle.csv.specs.declared.reader.Reader.{Reader}
use Rattle.csv.specs.declared.reader.Trim.TheVariants as trim
use Rattle.tda_io.specs.Csv.{Row, Format, first_fault}
use Rattle.tda_io.specs.Due.{◌>>◌, none_of}
use Rattle.tda_io.specs.Rows.{rows_of, bad_width, other_width}
use Rattle.tda_io.specs.declared.row_reader.Progress.{Progress}
use Rattle.tda_io.specs.declared.row_reader.Progress.TheVariants as progress
use Rattle.tda_io.specs.declared.rows.RowFault.{RowFault}
use Rattle.tda_io.specs.declared.rows.RowFault.TheVariants as fault

-- the row that was read last, how many were read, how wide they are, the rows that are left, and whether memory ran out
pub record RowsRead : Type 0 where
  pub row : Row
  pub number : ℕ
  pub width : ℕ
  pub rest : List Row
  pub failed : Bool

-- nothing of a text was read
abbrev pub unread : List ℕ → RowsRead
unread text = record { row = []; number = 0; width = 0; rest = rows_of text; failed = false }

-- the first row that is left and has another width than row 1
abbrev pub bad_rest : RowsRead → Option ℕ
bad_rest r = if r.number == 0 then bad_width r.rest else other_width r.width (r.number + 1) r.rest

-- one more row was read
pub record TakesRow (old new : RowsRead) : Type 0 where
  pub rest : old.rest ≡ new.row ∷ new.rest
  pub number : new.number ≡ old.number + 1
  pub width : new.width ≡ length new.row
  pub same : 0 < old.number → new.width ≡ old.width
  pub bad : bad_rest new ≡ bad_rest old
  pub sound : old.failed ≡ false
  pub stays_sound : new.failed ≡ false

-- there is no further row
pub record EndsRows (old new : RowsRead) : Type 0 where
  pub none : old.rest ≡ []
  pub even : bad_rest old ≡ None
  pub stays : new.rest ≡ []
  pub stays_even : bad_rest new ≡ None
  pub number : new.number ≡ old.number
  pub width : new.width ≡ old.width
  pub sound : old.failed ≡ false
  pub stays_sound : new.failed ≡ false

-- row n was read and has another width than row 1
pub record RefusesRow (n : ℕ) (old new : RowsRead) : Type 0 where
  pub bad : bad_rest old ≡ Some n
  pub rest : old.rest ≡ new.row ∷ new.rest
  pub number : new.number ≡ n
  pub next : n ≡ old.number + 1
  pub width : new.width ≡ old.width
  pub sound : old.failed ≡ false
  pub stays_sound : new.failed ≡ false

-- what reading a row answers and leaves: a row that is there, the end, or a row of another width; once memory ran out, that again
abbrev pub ReadsRow : Result Bool RowFault → RowsRead → RowsRead → Type 0
ReadsRow (Ok true) old new = TakesRow old new
ReadsRow (Ok false) old new = EndsRows old new
ReadsRow (Err (fault.BadWidth n)) old new = RefusesRow n old new
ReadsRow (Err fault.NoMemory) old new = new.failed ≡ true

-- what reading all rows that are left answers
abbrev pub ReadsRest : Result (Unit {0}) RowFault → RowsRead → Type 0
ReadsRest (Ok x) old = (bad_rest old ≡ None) × (old.failed ≡ false)
ReadsRest (Err (fault.BadWidth n)) old = (bad_rest old ≡ Some n) × (old.failed ≡ false)
ReadsRest (Err fault.NoMemory) old = Unit {0}

-- the value of the rows that are left after the header, or their first fault: a row of another width comes first
abbrev pub rest_due : {F A : Type 0} → Format F A → RowsRead → Result A F
rest_due format r =
    none_of (option_map format.bad_row (bad_rest r))
    >> none_of (first_fault (format.row_fault r.rest) [] r.rest)
    >> none_of (format.file_fault r.rest)
    >> Ok (format.value r.rest)

-- the records of a text from a state
abbrev pub rest_of : State → List ℕ → List Row
rest_of s xs = records_from default_config (length xs + 1) s xs

-- the bytes that a reader of a text has left
abbrev pub left_of : Reader (Bor (List ℕ)) → List ℕ
left_of reader = unwrap_or (source_of (λ s. Some s.now) reader) []

-- the rows that are left, while the end was not met
abbrev pub rest_at : Progress → Reader (Bor (List ℕ)) → List Row
rest_at progress.Reading reader = rest_of reader.state (left_of reader)
rest_at progress.Ended reader = []
rest_at progress.Failed reader = []

-- memory ran out
abbrev pub has_failed : Progress → Bool
has_failed progress.Reading = false
has_failed progress.Ended = false
has_failed progress.Failed = true

-- a reader of a text, between two records
pub record Reads (reader : Reader (Bor (List ℕ))) (left : List ℕ) : Type 0 where
  pub plain : reader.trim ≡ trim.None
  pub ready : Ready reader
  pub config : reader.config ≡ default_config
  pub between : ends_at_end reader.state ≡ false
  pub source : source_of (λ s. Some s.now) reader ≡ Some left

-- a reader that goes on stands between two records, and its rows can be counted
pub record IsReading (reader : Reader (Bor (List ℕ))) (number : ℕ) : Type 0 where
  pub reads : Reads reader (left_of reader)
  pub few : number + length (left_of reader) < 2 ^ 64
