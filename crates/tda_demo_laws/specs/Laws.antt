-- What each demo keeps: the readers accept its files, and its records agree with its facilities.
use Rattle.std.specs.Prelude.{◌≡◌, ◌+◌, ◌*◌, ◌≤◌, ◌<◌, ◌^◌, ℕ, List, length, Ok}
use Rattle.tda_model.specs.Groups.{kind_count}
use Rattle.tda_model.specs.Spine.{IsUnit}
use Rattle.tda_schema.specs.Read as schema_file
use Rattle.tda_spine.specs.Judged as spine_file
use Rattle.tda_spine.specs.Sound.{IsSound}
use Rattle.tda_invar.specs.Facilities as facilities_file
use Rattle.tda_invar.specs.KindTable.{NumberTable, number_at}
use Rattle.tda_records.specs.Records as records_file
use Rattle.tda_records.specs.Records.{AreRecordsOf}
use Rattle.tda_records.specs.declared.records.Record.{Record}
use Rattle.tda_hist.specs.Agreement.{agree_due}
use Rattle.tda_hist.specs.TrueTable.{true_count}
use Rattle.tda_demo.specs.Demo.{spine, spine_text, facilities_text, records_text}
use Rattle.tda_demo.specs.Persons.{word}
use Rattle.tda_demo.specs.Schema.{schema}
use Rattle.tda_demo.specs.Text.{schema_text}
use Rattle.tda_demo_laws.specs.DemoEntries as entries
use Rattle.tda_demo_laws.specs.DemoRecords as persons
use Rattle.tda_demo_laws.specs.FacilitiesText.{Entry, entry_rows, count_of}

abbrev pub facilities : ℕ → List Entry
facilities size = entries.facilities (spine size)

abbrev pub facility_table : ℕ → NumberTable
facility_table size = facilities_file.facilities_of schema (spine size) (entry_rows schema (spine size) (facilities size))

abbrev pub records : ℕ → ℕ → List Record
records number size = persons.records (spine size) (word number)

-- no file is longer than its limit
pub record AreShort (number size : ℕ) : Type 0 where
  pub schema : length schema_text ≤ 2 ^ 28
  pub spine : length (spine_text size) ≤ 2 ^ 28
  pub facilities : length (facilities_text size) ≤ 2 ^ 28
  pub records : length (records_text number size) ≤ 2 ^ 28

-- each file is accepted and gives what it was written for, and the records agree with the facilities
pub record AreAccepted (number size : ℕ) : Type 0 where
  pub schema_read : schema_file.read schema_text ≡ Ok schema
  pub spine_read : spine_file.read schema (spine_text size) ≡ Ok (spine size)
  pub facilities_read : facilities_file.read schema (spine size) (facilities_text size) ≡ Ok (facility_table size)
  pub numbers : (u k : ℕ) → IsUnit (spine size) u → k < kind_count schema
      → number_at (facility_table size) u k ≡ count_of (facilities size) u k
  pub records_read : records_file.read schema (spine size) (records_text number size) ≡ Ok (records number size)
  pub records_are : AreRecordsOf schema (spine size) (records number size)
  pub agree : agree_due schema (spine size) (facility_table size) (true_count (spine size) (records number size)) ≡ Ok tt

-- how many units there are
pub record IsSized (size : ℕ) : Type 0 where
  pub sound : IsSound (spine size)
  pub depth : (spine size).depth ≡ 5
  pub units : length (spine size).units ≡ 33 + 24 * size
