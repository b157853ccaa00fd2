-- The files that commands read: their names, places, limits, and the texts of their faults.
use Rattle.std.specs.Prelude.{◌≡◌, ◌≢◌, ◌⊎◌, ℕ, codes, List, slice_get, Some}
use Rattle.tda_model.specs.Schema.{Schema}
use Rattle.tda_model.specs.Spine.{Spine}
use Rattle.tda_schema.specs.declared.fault.SchemaFault.TheVariants as schema
use Rattle.tda_spine.specs.declared.fault.SpineFault.TheVariants as spine
use Rattle.tda_invar.specs.declared.fac_fault.FacFault.TheVariants as facilities
use Rattle.tda_invar.specs.declared.tot_fault.TotFault.TheVariants as totals
use Rattle.tda_invar.specs.declared.join_fault.JoinFault.TheVariants as join
use Rattle.tda_records.specs.declared.fault.RecFault.TheVariants as records
use Rattle.tda_places.specs.declared.fault.MeaFault.TheVariants as measurements
use Rattle.tda_prices.specs.declared.fault.TabFault.TheVariants as tables
use Rattle.tda_prices.specs.declared.fault.PriFault.TheVariants as prices
use Rattle.tda_hist.specs.declared.fault.HistFault.{HistFault}
use Rattle.tda_command.specs.Words.{read_names}
use Rattle.tda_refusal.specs.Refusal.{plain_text, schema_text, spine_text, facilities_text, totals_text, join_text, records_text, hist_text, measurements_text, tables_text, prices_text}
use Rattle.tda_refusal.specs.declared.text.Plain.TheVariants.{TooLong, BadLength}
use Rattle.tda_inputs.specs.Ending.{file_limit, written_limit, seed_length}
use Rattle.tda_inputs.specs.declared.reading.File.{File}
use Rattle.tda_inputs.specs.declared.reading.File.TheVariants as file

-- the name of a file in the command
abbrev pub name_of : File → List ℕ
name_of file.Schema = codes "schema"
name_of file.Spine = codes "spine"
name_of file.Facilities = codes "facilities"
name_of file.Totals = codes "totals"
name_of file.Records = codes "records"
name_of file.Measurements = codes "measurements"
name_of file.Words = codes "words"
name_of file.Seed = codes "seed"
name_of file.Tables = codes "tables"
name_of file.Prices = codes "prices"

-- its place among the files that are read
abbrev pub place_of_file : File → ℕ
place_of_file file.Schema = 0
place_of_file file.Spine = 1
place_of_file file.Facilities = 2
place_of_file file.Totals = 3
place_of_file file.Records = 3
place_of_file file.Measurements = 4
place_of_file file.Words = 4
place_of_file file.Seed = 4
place_of_file file.Tables = 5
place_of_file file.Prices = 6

-- how many bytes it may have
abbrev pub limit_of : File → ℕ
limit_of file.Seed = seed_length
limit_of file.Measurements = written_limit
limit_of file.Tables = written_limit
limit_of file.Prices = written_limit
limit_of _ = file_limit

-- the words' command reads the file, at its place
abbrev pub IsRead : List (List ℕ) → File → Type 0
IsRead words f = slice_get (read_names words) (place_of_file f) ≡ Some (name_of f)

-- ---- the texts of faults

-- the text of a reader's fault: want of memory is none
abbrev pub IsReaderFault : {F : Type 0} → F → (F → List ℕ) → List ℕ → Type 0
IsReaderFault {F = F} no_memory text t = (fault : F) × (fault ≢ no_memory) × (t ≡ text fault)

-- the text of a fault that the file has beside its length: totals are judged beside facilities too, and so are records
abbrev pub IsOwnFault : File → List ℕ → Type 0
IsOwnFault file.Schema t = IsReaderFault schema.NoMemory schema_text t
IsOwnFault file.Spine t = IsReaderFault spine.NoMemory spine_text t
IsOwnFault file.Facilities t = IsReaderFault facilities.NoMemory facilities_text t
IsOwnFault file.Totals t = (sp : Spine) × (IsReaderFault totals.NoMemory (totals_text sp) t ⊎ IsReaderFault join.NoMemory (join_text sp) t)
IsOwnFault file.Records t = IsReaderFault records.NoMemory records_text t ⊎ ((s : Schema) × (sp : Spine) × (fault : HistFault) × (t ≡ hist_text s sp fault))
IsOwnFault file.Measurements t = IsReaderFault measurements.NoMemory measurements_text t
IsOwnFault file.Words t = t ≡ plain_text BadLength
IsOwnFault file.Seed t = t ≡ plain_text BadLength
IsOwnFault file.Tables t = IsReaderFault tables.NoMemory tables_text t
IsOwnFault file.Prices t = IsReaderFault prices.NoMemory prices_text t

-- the text of a fault of this file
abbrev pub IsFaultOf : File → List ℕ → Type 0
IsFaultOf f t = (t ≡ plain_text TooLong) ⊎ IsOwnFault f t
