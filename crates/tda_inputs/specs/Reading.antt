-- What reading the files of a command gives, asks for and counts.
use Rattle.std.specs.Prelude.{◌≡◌, ◌≢◌, ◌⊎◌, ◌<◌, ◌≤◌, ℕ, ℤ, ◌+◌, ◌%◌, ◌^◌, List, [], length, take, slice_index_or, sum, count_by, Option, Some, None, IfSome, option_map, Result, Ok, Err}
use Rattle.std.specs.Global.{Vec}
use Rattle.rand_chacha.specs.ChaCha.{key_of}
use Rattle.tda_io.specs.Outside.{Shelf, asks}
use Rattle.tda_model.specs.Schema.{Schema}
use Rattle.tda_model.specs.Spine.{Spine, IsUnit}
use Rattle.tda_model.specs.Tables.{persons_in}
use Rattle.tda_model.specs.Bounds.{persons_limit}
use Rattle.tda_invar.specs.KindTable.{NumberTable}
use Rattle.tda_invar.specs.Facilities.{IsTableOf}
use Rattle.tda_invar.specs.Known.{JoinedLists, IsJoined, known, known_of, join_due, join_fault}
use Rattle.tda_spine.specs.Judged.{IsWithinLimits}
use Rattle.tda_places.specs.Measurements.{AreMeasurementsOf}
use Rattle.tda_model.specs.Release as release
use Rattle.tda_records.specs.Records.{AreRecordsOf}
use Rattle.tda_records.specs.declared.records.Record.{Record}
use Rattle.tda_out.specs.Counts.{Counts, count_at, counts_of, AreCountsOf}
use Rattle.tda_hist.specs.TrueTable.{lives_in, true_count, state_persons, BlocksAddUp}
use Rattle.tda_words.specs.Words.{words_of, stream_words}
use Rattle.tda_inputs.specs.Survey.{Survey}
use Rattle.tda_command.specs.Words.{reads_of, source_of}
use Rattle.tda_inputs.specs.Ending.{Ending, file_limit, or_refused, judged_within, read_ending, refused_ending}
use Rattle.tda_inputs.specs.Accepted.{Given, given_by, failing_at, inputs_by, totals_from, records_from, inputs_from, survey_from, Case, case_from}
use Rattle.tda_inputs.specs.Asked.{AsksPrefix, asks_all}
use Rattle.tda_refusal.specs.Refusal.{plain_text, join_text}
use Rattle.tda_inputs.specs.Files.{name_of, place_of_file, limit_of, IsRead, IsFaultOf}
use Rattle.tda_inputs.specs.declared.base.Base.{Base}
use Rattle.tda_command.specs.declared.words.Source.{Source}
use Rattle.tda_command.specs.declared.words.Source.TheVariants as source
use Rattle.tda_inputs.specs.declared.reading.File.{File}
use Rattle.tda_inputs.specs.declared.reading.File.TheVariants as file
use Rattle.tda_refusal.specs.declared.text.Plain.TheVariants.{TooLong}
use Rattle.tda_inputs.specs.declared.reading.Stop.{Stop}
use Rattle.tda_inputs.specs.declared.reading.Stop.TheVariants as stop
use Rattle.tda_inputs.specs.declared.inputs.Inputs.{Inputs}
use Rattle.tda_prices.specs.Kept.{PriceList, ArePricesOf}
use Rattle.tda_inputs.specs.declared.evidence.Evidence.{Evidence}
use Rattle.tda_inputs.specs.declared.noise.Noise.{Noise}
use Rattle.tda_inputs.specs.declared.noise.Noise.TheVariants as noise
use Rattle.tda_inputs.specs.declared.counted.Counted.{Counted}

-- where the command finds it
abbrev pub path_of : List (List ℕ) → File → List ℕ
path_of words f = slice_index_or (reads_of words) (place_of_file f) []

abbrev pub IsLong : ℕ → Option (List ℕ) → Type 0
IsLong limit held = (bytes : List ℕ) × (held ≡ Some bytes) × (limit < length bytes)

-- the file is refused with this text, unless memory ran out
abbrev pub IsRefused : File → List ℕ → Stop → Type 0
IsRefused f text (stop.Refused r) = (r.file ≡ f) × (r.fault.items ≡ text)
IsRefused f text (stop.Read g) = ⊥
IsRefused f text stop.NoMemory = Unit {0}

-- a reader's fault stops the reading: the file is refused with the text of the fault, or memory ran out
abbrev pub IsStop : {F : Type 0} → F → File → (F → List ℕ) → F → Stop → Type 0
IsStop no_memory f text e (stop.Refused r) = (e ≢ no_memory) × (r.file ≡ f) × (r.fault.items ≡ text e) × IsFaultOf f r.fault.items
IsStop no_memory f text e (stop.Read g) = ⊥
IsStop no_memory f text e stop.NoMemory = Unit {0}

-- the bytes of a file, where it isn't too long
abbrev pub GivesBytes : List (List ℕ) → File → Option Shelf → Result (Vec ℕ) Stop → Type 0
GivesBytes words f shelf (Ok v) = IfSome shelf (λ s. s.holds (path_of words f) ≡ Some v.items)
GivesBytes words f shelf (Err (stop.Refused r)) = (r.file ≡ f) × (r.fault.items ≡ plain_text TooLong) × IfSome shelf (λ s. IsLong (limit_of f) (s.holds (path_of words f)))
GivesBytes words f shelf (Err (stop.Read g)) = g ≡ f
GivesBytes words f shelf (Err stop.NoMemory) = Unit {0}

-- what the file is judged to be, where it is accepted
abbrev pub GivesBy : {A : Type 0} → List (List ℕ) → File → (Option (List ℕ) → Result A Ending) → Option Shelf → Result A Stop → Type 0
GivesBy words f from shelf (Ok x) = IfSome shelf (λ s. from (s.holds (path_of words f)) ≡ Ok x)
GivesBy words f from shelf (Err (stop.Refused r)) = (r.file ≡ f) × IsFaultOf f r.fault.items
    × IfSome shelf (λ s. from (s.holds (path_of words f)) ≡ Err (refused_ending (name_of f) r.fault.items))
GivesBy words f from shelf (Err (stop.Read g)) = g ≡ f
GivesBy words f from shelf (Err stop.NoMemory) = Unit {0}

-- the same of a file that a reader reads
abbrev pub GivesFile : {A F : Type 0} → List (List ℕ) → File → (F → List ℕ) → (List ℕ → Result A F) → Option Shelf → Result A Stop → Type 0
GivesFile words f text read shelf r = GivesBy words f (judged_within (limit_of f) (name_of f) text read) shelf r

-- a file is judged once more, beside others
abbrev pub Judges : {X F : Type 0} → File → (F → List ℕ) → Result (Unit {0}) F → Result X Stop → Type 0
Judges f text due (Ok x) = or_refused (name_of f) text due ≡ Ok tt
Judges f text due (Err (stop.Refused r)) = (r.file ≡ f) × IsFaultOf f r.fault.items × (or_refused (name_of f) text due ≡ Err (refused_ending (name_of f) r.fault.items))
Judges f text due (Err (stop.Read g)) = ⊥
Judges f text due (Err stop.NoMemory) = Unit {0}

-- what facilities and totals join to
abbrev pub GivesJoined : Schema → Spine → NumberTable → List ℕ → Result JoinedLists Stop → Type 0
GivesJoined s sp f t (Ok inv) = (inv.facilities ≡ f) × (inv.totals ≡ t) × Judges file.Totals (join_text sp) (join_due s sp (known sp f t)) (Ok inv)
GivesJoined s sp f t (Err e) = Judges {X = JoinedLists} file.Totals (join_text sp) (join_due s sp (known sp f t)) (Err e)

-- what the file of totals gives beside the facilities
abbrev pub GivesInvariants : List (List ℕ) → Base → Option Shelf → Result JoinedLists Stop → Type 0
GivesInvariants words b shelf (Ok inv) = (inv.facilities ≡ b.facilities) × GivesBy words file.Totals (totals_from b) shelf (Ok inv.totals)
GivesInvariants words b shelf (Err e) = GivesBy words file.Totals (totals_from b) shelf (Err e)

-- the file is asked for once, or where memory ran out perhaps not at all
abbrev pub AsksFile : {T : Type 0} → List (List ℕ) → File → Option Shelf → Option Shelf → Result T Stop → Type 0
AsksFile words f old new (Ok x) = new ≡ option_map (asks (path_of words f)) old
AsksFile words f old new (Err (stop.Refused r)) = new ≡ option_map (asks (path_of words f)) old
AsksFile words f old new (Err (stop.Read g)) = new ≡ option_map (asks (path_of words f)) old
AsksFile words f old new (Err stop.NoMemory) = (new ≡ option_map (asks (path_of words f)) old) ⊎ (new ≡ old)

-- only a failed read raises the count
abbrev pub CountsRead : {T : Type 0} → ℕ → ℕ → Result T Stop → Type 0
CountsRead before now (Ok x) = now ≡ before
CountsRead before now (Err (stop.Refused r)) = now ≡ before
CountsRead before now (Err (stop.Read f)) = before < now
CountsRead before now (Err stop.NoMemory) = now ≡ before

-- the first n reads gave what the shelf holds
abbrev pub Agree : List (List ℕ) → Shelf → ℕ → Given → Type 0
Agree words s n given = (m : ℕ) → m < n → given m ≡ given_by words s.holds m

-- what the first n files come to, or the first file that stops
abbrev pub Gathers : {X : Type 0} → List (List ℕ) → ℕ → (Given → Result X Ending) → Option Shelf → Result X Stop → Type 0
Gathers words n from shelf (Ok x) = IfSome shelf (λ s. (given : Given) → Agree words s n given → from given ≡ Ok x)
Gathers words n from shelf (Err (stop.Refused r)) = IsRead words r.file × IsFaultOf r.file r.fault.items
    × IfSome shelf (λ s. from (given_by words s.holds) ≡ Err (refused_ending (name_of r.file) r.fault.items))
Gathers words n from shelf (Err (stop.Read f)) = IsRead words f
    × IfSome shelf (λ s. from (failing_at (place_of_file f) (given_by words s.holds)) ≡ Err (read_ending (name_of f)))
Gathers words n from shelf (Err stop.NoMemory) = Unit {0}

-- each of the first n files is asked for once, in order, up to the one that stops
abbrev pub AsksFiles : {X : Type 0} → List (List ℕ) → ℕ → Option Shelf → Option Shelf → Result X Stop → Type 0
AsksFiles words n old new (Ok x) = new ≡ option_map (asks_all (take n (reads_of words))) old
AsksFiles words n old new (Err (stop.Refused r)) = new ≡ option_map (asks_all (take (place_of_file r.file + 1) (reads_of words))) old
AsksFiles words n old new (Err (stop.Read f)) = new ≡ option_map (asks_all (take (place_of_file f + 1) (reads_of words))) old
AsksFiles words n old new (Err stop.NoMemory) = AsksPrefix (reads_of words) old new

-- ---- what tables are made from

-- the words' command reads the files of the inputs
pub record ReadsInputs (words : List (List ℕ)) : Type 0 where
  pub schema : IsRead words file.Schema
  pub spine : IsRead words file.Spine
  pub facilities : IsRead words file.Facilities
  pub totals : IsRead words file.Totals
  pub measurements : IsRead words file.Measurements

-- as they are published
abbrev pub inputs_in : Inputs → release.Inputs
inputs_in i = inputs_by i.schema i.spine (known_of i.spine i.invariants) i.measurements

-- they go together
pub record AreInputs (s : Schema) (sp : Spine) (inv : JoinedLists) (m : List ℤ) : Type 0 where
  pub limits : IsWithinLimits s sp
  pub joined : IsJoined s sp inv
  pub measured : AreMeasurementsOf s sp m

-- what the files of the inputs come to
abbrev pub GathersInputs : List (List ℕ) → Option Shelf → Result Inputs Stop → Type 0
GathersInputs words shelf (Ok i) = AreInputs i.schema i.spine i.invariants i.measurements × Gathers words 5 inputs_from shelf (Ok (inputs_in i))
GathersInputs words shelf (Err e) = Gathers words 5 inputs_from shelf (Err e)

-- ---- what is measured

-- the words of a file or of a seed
abbrev pub noise_words : Noise → List ℕ
noise_words (noise.Words bytes) = words_of bytes.items
noise_words (noise.Seed seed place budget) = stream_words (key_of seed) place budget

-- a file has whole words and isn't too long, and a budget isn't too large
abbrev pub IsSource : Noise → Type 0
IsSource (noise.Words bytes) = (length bytes.items % 4 ≡ 0) × (length bytes.items ≤ file_limit)
IsSource (noise.Seed seed place budget) = budget ≤ 2 ^ 32

-- the source of words that a command's file gives
abbrev pub GivesNoise : List (List ℕ) → File → (Option (List ℕ) → Result (List ℕ) Ending) → Option Shelf → Result Noise Stop → Type 0
GivesNoise words f from shelf (Ok n) = IsSource n × GivesBy words f from shelf (Ok (noise_words n))
GivesNoise words f from shelf (Err e) = GivesBy words f from shelf (Err e)

-- the file that words come from
abbrev pub source_path : Source → File
source_path source.Words = file.Words
source_path source.Seed = file.Seed

-- the words' command reads the files of a survey
pub record ReadsSurvey (words : List (List ℕ)) : Type 0 where
  pub schema : IsRead words file.Schema
  pub spine : IsRead words file.Spine
  pub facilities : IsRead words file.Facilities
  pub records : IsRead words file.Records
  pub source : IsRead words (source_path (source_of words))

-- the counts of the true tables of these records, which can be measured
pub record AreTrueCounts (s : Schema) (sp : Spine) (r : List Record) (counts : Counts) : Type 0 where
  pub records : AreRecordsOf s sp r
  pub counts_are : counts ≡ counts_of s sp (true_count sp r)
  pub sized : AreCountsOf s sp counts
  pub blocks : BlocksAddUp s sp (count_at counts)
  pub persons : (u : ℕ) → IsUnit sp u → persons_in s (count_at counts u) ≡ count_by (lives_in sp u) r
  pub few : (u : ℕ) → IsUnit sp u → persons_in s (count_at counts u) ≤ persons_limit
  pub few_in_states : sum (state_persons s sp (count_at counts)) ≤ persons_limit

-- what the file of records gives beside the facilities
abbrev pub GivesTables : List (List ℕ) → Base → Option Shelf → Result Counts Stop → Type 0
GivesTables words b shelf (Ok counts) = (r : List Record) × AreTrueCounts b.schema b.spine r counts × GivesBy words file.Records (records_from b) shelf (Ok r)
GivesTables words b shelf (Err e) = GivesBy words file.Records (records_from b) shelf (Err e)

-- the states' totals of these counts suffice for the facilities
abbrev pub AreEnough : Schema → Spine → NumberTable → Counts → Type 0
AreEnough s sp f counts = join_fault s sp (known sp f (state_persons s sp (count_at counts))) ≡ None

-- the counts are those of the persons of the survey, and its words and facilities go with them
pub record IsCounted (v : Survey) (c : Counted) : Type 0 where
  pub schema : c.schema ≡ v.schema
  pub spine : c.spine ≡ v.spine
  pub facilities : c.facilities ≡ v.facilities
  pub limits : IsWithinLimits v.schema v.spine
  pub table : IsTableOf v.schema v.spine v.facilities
  pub enough : AreEnough v.schema v.spine v.facilities c.tables
  pub tables : AreTrueCounts v.schema v.spine v.records c.tables
  pub noise : IsSource c.noise
  pub words : noise_words c.noise ≡ v.words

-- what is gathered to be measured
abbrev pub Surveys : List (List ℕ) → Option Shelf → Result Counted Stop → Type 0
Surveys words shelf (Ok c) = (v : Survey) × IsCounted v c × Gathers words 5 (survey_from words) shelf (Ok v)
Surveys words shelf (Err e) = Gathers words 5 (survey_from words) shelf (Err e)

-- ---- what is audited

-- the words' command reads the files of a case
pub record ReadsCase (words : List (List ℕ)) : Type 0 where
  pub inputs : ReadsInputs words
  pub tables : IsRead words file.Tables
  pub prices : IsRead words file.Prices

-- the prices that the file gives
abbrev pub GivesPrices : List (List ℕ) → (Option (List ℕ) → Result (List ℤ) Ending) → Option Shelf → Result PriceList Stop → Type 0
GivesPrices words from shelf (Ok p) = GivesBy words file.Prices from shelf (Ok p.numbers)
GivesPrices words from shelf (Err e) = GivesBy words file.Prices from shelf (Err e)

-- as it is judged
abbrev pub case_in : Evidence → Case
case_in e = record { inputs = inputs_in e.inputs; tables = e.tables; prices = e.prices.numbers }

-- it goes together
pub record IsEvidence (e : Evidence) : Type 0 where
  pub inputs : AreInputs e.inputs.schema e.inputs.spine e.inputs.invariants e.inputs.measurements
  pub counts : AreCountsOf e.inputs.schema e.inputs.spine e.tables
  pub prices : ArePricesOf e.inputs.schema e.inputs.spine e.prices

-- what the files of a case come to
abbrev pub GathersCase : List (List ℕ) → Option Shelf → Result Evidence Stop → Type 0
GathersCase words shelf (Ok e) = IsEvidence e × Gathers words 7 case_from shelf (Ok (case_in e))
GathersCase words shelf (Err x) = Gathers words 7 case_from shelf (Err x)
