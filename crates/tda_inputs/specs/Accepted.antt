-- What the files of a command come to, by what the reads give.
use Rattle.std.specs.Prelude.{ℕ, ℤ, if◌then◌else◌, codes, List, [], Option, None, Result, Ok, ◌==◌, slice_index_or}
use Rattle.tda_io.specs.Due.{◌>>=◌}
use Rattle.tda_model.specs.Spine.{Spine}
use Rattle.tda_model.specs.Schema.{Schema}
use Rattle.tda_records.specs.declared.records.Record.{Record}
use Rattle.tda_hist.specs.TrueTable.{true_count}
use Rattle.tda_model.specs.Tables.{Published}
use Rattle.tda_model.specs.Release.{Inputs}
use Rattle.tda_places.specs.Places.{place}
use Rattle.tda_places.specs.Measurements.{measured_at}
use Rattle.tda_invar.specs.Known.{known, join_due}
use Rattle.tda_hist.specs.Agreement.{agree_due}
use Rattle.tda_command.specs.Words.{reads_of, source_of}
use Rattle.tda_refusal.specs.Refusal.{schema_text, spine_text, facilities_text, totals_text, join_text, records_text, hist_text, measurements_text, tables_text, prices_text}
use Rattle.tda_inputs.specs.declared.base.Base.{Base}
use Rattle.tda_inputs.specs.Ending.{Ending, written_limit, or_refused, judged_within, judged_file}
use Rattle.tda_inputs.specs.Survey.{Survey, noise_from}
use Rattle.tda_schema.specs.Read as schema
use Rattle.tda_spine.specs.Judged as spine
use Rattle.tda_invar.specs.Facilities as facilities
use Rattle.tda_invar.specs.Totals as totals
use Rattle.tda_records.specs.Records as records
use Rattle.tda_places.specs.Measurements as measurements
use Rattle.tda_prices.specs.TablesRead as tables
use Rattle.tda_prices.specs.PricesText as prices
use Rattle.tda_out.specs.Counts.{Counts}

-- what the tables are made from: with what is published exactly, a measurement for each unit, query and class
abbrev pub inputs_by : Schema → Spine → Published → List ℤ → Inputs
inputs_by s sp known m = record {
  schema = s;
  spine = sp;
  known = known;
  measured = λ unit query class. measured_at s sp m (place unit query class);
}

-- what the reads of a command's files gave, by number: a read that failed gave nothing
abbrev pub Given : Type 0
Given = ℕ → Option (List ℕ)

-- what the reads of the command's files give where none fails
abbrev pub given_by : List (List ℕ) → (List ℕ → Option (List ℕ)) → Given
given_by words holds n = holds (slice_index_or (reads_of words) n [])

-- the same where the read of file k fails
abbrev pub failing_at : ℕ → Given → Given
failing_at k given n = if n == k then None else given n

-- In what follows each file is judged before the next is read.

-- the first three files, or how the program ends
abbrev pub base_from : Given → Result Base Ending
base_from given = do
  s ← judged_file (codes "schema") schema_text schema.read (given 0)
  sp ← judged_file (codes "spine") spine_text (spine.read s) (given 1)
  f ← judged_file (codes "facilities") facilities_text (facilities.read s sp) (given 2)
  Ok (record { schema = s; spine = sp; facilities = f })

-- the totals, or how the program ends: that they suffice for the facilities is judged with them
abbrev pub totals_from : Base → Option (List ℕ) → Result (List ℕ) Ending
totals_from b given = do
  t ← judged_file (codes "totals") (totals_text b.spine) (totals.read b.spine) given
  _ ← or_refused (codes "totals") (join_text b.spine) (join_due b.schema b.spine (known b.spine b.facilities t))
  Ok t

-- the records, or how the program ends: that persons and facilities agree is judged with them
abbrev pub records_from : Base → Option (List ℕ) → Result (List Record) Ending
records_from b given = do
  r ← judged_file (codes "records") records_text (records.read b.schema b.spine) given
  _ ← or_refused (codes "records") (hist_text b.schema b.spine) (agree_due b.schema b.spine b.facilities (true_count b.spine r))
  Ok r

-- the measurements, or how the program ends
abbrev pub measurements_from : Schema → Spine → Option (List ℕ) → Result (List ℤ) Ending
measurements_from s sp given = judged_within written_limit (codes "measurements") measurements_text (measurements.read s sp) given

-- the inputs of `fit`, or how the program ends
abbrev pub inputs_from : Given → Result Inputs Ending
inputs_from given = do
  b ← base_from given
  t ← totals_from b (given 3)
  m ← measurements_from b.schema b.spine (given 4)
  Ok (inputs_by b.schema b.spine (known b.spine b.facilities t) m)

-- what `measure` and `run` measure, or how the program ends
abbrev pub survey_from : List (List ℕ) → Given → Result Survey Ending
survey_from words given = do
  b ← base_from given
  r ← records_from b (given 3)
  w ← noise_from words (source_of words) (given 4)
  Ok (record { schema = b.schema; spine = b.spine; facilities = b.facilities; records = r; words = w })

-- the tables, or how the program ends
abbrev pub tables_from : Schema → Spine → Option (List ℕ) → Result Counts Ending
tables_from s sp given = judged_within written_limit (codes "tables") tables_text (tables.read s sp) given

-- the prices, or how the program ends
abbrev pub prices_from : Schema → Spine → Option (List ℕ) → Result (List ℤ) Ending
prices_from s sp given = judged_within written_limit (codes "prices") prices_text (prices.read s sp) given

-- tables and prices, with the inputs that they are judged over
pub record Case : Type 0 where
  pub inputs : Inputs
  pub tables : Counts
  pub prices : List ℤ

-- what `audit` judges, or how the program ends
abbrev pub case_from : Given → Result Case Ending
case_from given = do
  i ← inputs_from given
  x ← tables_from i.schema i.spine (given 5)
  p ← prices_from i.schema i.spine (given 6)
  Ok (record { inputs = i; tables = x; prices = p })
