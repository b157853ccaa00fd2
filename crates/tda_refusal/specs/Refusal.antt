-- The texts of faults: a name, and what the fault carries.
use Rattle.std.specs.Prelude.{codes, ℕ, ◌≡◌, ◌+◌, ◌<◌, List, [], ◌∷◌, ◌++◌, slice_index_or, Some, None}
use Rattle.std.specs.Fmt.{decimal}
use Rattle.tda_model.specs.Schema.{Schema}
use Rattle.tda_model.specs.Groups.{kind_count}
use Rattle.tda_model.specs.Spine.{Spine, IsUnit, code_of}
use Rattle.tda_schema.specs.Readers.{values_of}
use Rattle.tda_schema.specs.declared.fault.SchemaFault.{SchemaFault}
use Rattle.tda_schema.specs.declared.fault.SchemaFault.TheVariants as schema
use Rattle.tda_spine.specs.declared.fault.SpineFault.{SpineFault}
use Rattle.tda_spine.specs.declared.fault.SpineFault.TheVariants as spine
use Rattle.tda_invar.specs.declared.fac_fault.FacFault.{FacFault}
use Rattle.tda_invar.specs.declared.fac_fault.FacFault.TheVariants as facilities
use Rattle.tda_invar.specs.declared.tot_fault.TotFault.{TotFault}
use Rattle.tda_invar.specs.declared.tot_fault.TotFault.TheVariants as totals
use Rattle.tda_invar.specs.declared.join_fault.JoinFault.{JoinFault}
use Rattle.tda_invar.specs.declared.join_fault.JoinFault.TheVariants as join
use Rattle.tda_records.specs.declared.fault.RecFault.{RecFault}
use Rattle.tda_records.specs.declared.fault.RecFault.TheVariants as records
use Rattle.tda_places.specs.declared.fault.MeaFault.{MeaFault}
use Rattle.tda_places.specs.declared.fault.MeaFault.TheVariants as measurements
use Rattle.tda_prices.specs.declared.fault.TabFault.{TabFault}
use Rattle.tda_prices.specs.declared.fault.TabFault.TheVariants as tables
use Rattle.tda_prices.specs.declared.fault.PriFault.{PriFault}
use Rattle.tda_prices.specs.declared.fault.PriFault.TheVariants as prices
use Rattle.tda_hist.specs.declared.fault.HistFault.{HistFault}
use Rattle.tda_hist.specs.declared.fault.HistFault.TheVariants as hist
use Rattle.tda_refusal.specs.declared.text.Plain.{Plain}
use Rattle.tda_refusal.specs.declared.text.Plain.TheVariants as plain
use Rattle.tda_refusal.specs.declared.text.Named.{Named}
use Rattle.tda_refusal.specs.declared.text.Named.TheVariants as named

abbrev pub schema_text : SchemaFault → List ℕ
schema_text schema.BadToml = codes "BadToml"
schema_text schema.UnknownKey = codes "UnknownKey"
schema_text schema.MissingKey = codes "MissingKey"
schema_text schema.WrongType = codes "WrongType"
schema_text schema.BadName = codes "BadName"
schema_text schema.Repeated = codes "Repeated"
schema_text schema.BadSize = codes "BadSize"
schema_text schema.UnknownName = codes "UnknownName"
schema_text schema.BadShare = codes "BadShare"
schema_text schema.Denominator = codes "Denominator"
schema_text schema.OverTotal = codes "OverTotal"
schema_text schema.NotNested = codes "NotNested"
schema_text schema.KindWithoutCell = codes "KindWithoutCell"
schema_text schema.NoMemory = []

-- a name and, after a space, a unit's code
abbrev pub coded : List ℕ → List ℕ → List ℕ
coded name code = name ++ 32 ∷ code

-- a name and, after a space, a number
abbrev pub numbered : List ℕ → ℕ → List ℕ
numbered name number = name ++ 32 ∷ decimal number

-- a state's total is below what its facilities need
abbrev pub short : List ℕ → ℕ → ℕ → List ℕ
short code total needed = numbered (numbered (coded (codes "Short") code) total) needed

-- a unit's row in the spine's file: the header is row 1, and units are numbered from 0
abbrev pub row_of : ℕ → ℕ
row_of unit = unit + 2

abbrev pub spine_text : SpineFault → List ℕ
spine_text (spine.BadRow row) = numbered (codes "BadRow") row
spine_text (spine.BadHeader row) = numbered (codes "BadHeader") row
spine_text (spine.BadCode row) = numbered (codes "BadCode") row
spine_text (spine.Repeated row) = numbered (codes "Repeated") row
spine_text (spine.UnknownParent row) = numbered (codes "UnknownParent") row
spine_text (spine.WrongLevel row) = numbered (codes "WrongLevel") row
spine_text spine.NoNation = codes "NoNation"
spine_text (spine.Childless unit) = numbered (codes "Childless") (row_of unit)
spine_text spine.TooMany = codes "TooMany"
spine_text (spine.FitTooLarge None) = codes "FitTooLarge -"
spine_text (spine.FitTooLarge (Some unit)) = numbered (codes "FitTooLarge") (row_of unit)
spine_text spine.NoMemory = []

abbrev pub facilities_text : FacFault → List ℕ
facilities_text (facilities.BadRow row) = numbered (codes "BadRow") row
facilities_text (facilities.BadHeader row) = numbered (codes "BadHeader") row
facilities_text (facilities.UnknownBlock row) = numbered (codes "UnknownBlock") row
facilities_text (facilities.UnknownKind row) = numbered (codes "UnknownKind") row
facilities_text (facilities.Household row) = numbered (codes "Household") row
facilities_text (facilities.BadCount row) = numbered (codes "BadCount") row
facilities_text (facilities.Repeated row) = numbered (codes "Repeated") row
facilities_text facilities.NoMemory = []

-- a state is printed by its code
abbrev pub totals_text : Spine → TotFault → List ℕ
totals_text sp (totals.BadRow row) = numbered (codes "BadRow") row
totals_text sp (totals.BadHeader row) = numbered (codes "BadHeader") row
totals_text sp (totals.UnknownState row) = numbered (codes "UnknownState") row
totals_text sp (totals.Repeated row) = numbered (codes "Repeated") row
totals_text sp (totals.Missing state) = coded (codes "Missing") (code_of sp state)
totals_text sp (totals.BadCount row) = numbered (codes "BadCount") row
totals_text sp totals.TooManyPersons = codes "TooManyPersons"
totals_text sp totals.NoMemory = []

abbrev pub join_text : Spine → JoinFault → List ℕ
join_text sp (join.Short state total needed) = short (code_of sp state) total needed
join_text sp join.NoMemory = []

abbrev pub records_text : RecFault → List ℕ
records_text (records.BadRow row) = numbered (codes "BadRow") row
records_text (records.BadHeader row) = numbered (codes "BadHeader") row
records_text (records.UnknownBlock row) = numbered (codes "UnknownBlock") row
records_text (records.UnknownValue row) = numbered (codes "UnknownValue") row
records_text (records.ImpossibleCell row) = numbered (codes "ImpossibleCell") row
records_text records.NoMemory = []

abbrev pub measurements_text : MeaFault → List ℕ
measurements_text (measurements.BadRow row) = numbered (codes "BadRow") row
measurements_text (measurements.BadHeader row) = numbered (codes "BadHeader") row
measurements_text (measurements.WrongPlace row) = numbered (codes "WrongPlace") row
measurements_text (measurements.BadNumber row) = numbered (codes "BadNumber") row
measurements_text (measurements.TooMany row) = numbered (codes "TooMany") row
measurements_text measurements.Missing = codes "Missing"
measurements_text measurements.NoMemory = []

abbrev pub tables_text : TabFault → List ℕ
tables_text (tables.BadRow row) = numbered (codes "BadRow") row
tables_text (tables.BadHeader row) = numbered (codes "BadHeader") row
tables_text (tables.WrongPlace row) = numbered (codes "WrongPlace") row
tables_text (tables.BadNumber row) = numbered (codes "BadNumber") row
tables_text tables.NoMemory = []

abbrev pub prices_text : PriFault → List ℕ
prices_text (prices.BadRow row) = numbered (codes "BadRow") row
prices_text (prices.BadHeader row) = numbered (codes "BadHeader") row
prices_text (prices.WrongPlace row) = numbered (codes "WrongPlace") row
prices_text (prices.BadNumber row) = numbered (codes "BadNumber") row
prices_text (prices.TooMany row) = numbered (codes "TooMany") row
prices_text prices.Missing = codes "Missing"
prices_text prices.NoMemory = []

-- the name of a kind of quarters: a value of the first attribute
abbrev pub kind_name : Schema → ℕ → List ℕ
kind_name s kind = slice_index_or (values_of s 0) kind []

-- a name, and then a block's code and the name of a kind
abbrev pub in_block : Schema → Spine → List ℕ → ℕ → ℕ → List ℕ
in_block s sp name block kind = coded (coded name (code_of sp block)) (kind_name s kind)

abbrev pub hist_text : Schema → Spine → HistFault → List ℕ
hist_text s sp (hist.NoFacility block kind) = in_block s sp (codes "NoFacility") block kind
hist_text s sp (hist.Short block kind found needed) = numbered (numbered (in_block s sp (codes "Short") block kind) found) needed

-- want of memory is no fault of a file, and has no text
abbrev pub plain_text : Plain → List ℕ
plain_text plain.TooLong = codes "TooLong"
plain_text plain.BadLength = codes "BadLength"
plain_text (plain.Schema fault) = schema_text fault
plain_text (plain.Spine fault) = spine_text fault
plain_text (plain.Facilities fault) = facilities_text fault
plain_text (plain.Records fault) = records_text fault
plain_text (plain.Measurements fault) = measurements_text fault
plain_text (plain.Tables fault) = tables_text fault
plain_text (plain.Prices fault) = prices_text fault

abbrev pub named_text : Schema → Spine → Named → List ℕ
named_text s sp (named.Totals fault) = totals_text sp fault
named_text s sp (named.Join fault) = join_text sp fault
named_text s sp (named.Hist fault) = hist_text s sp fault

-- a unit of the spine, and a kind of the schema
pub record IsPair (s : Schema) (sp : Spine) (u k : ℕ) : Type 0 where
  pub unit : IsUnit sp u
  pub kind : k < kind_count s

-- the state that a fault of totals names is the spine's
abbrev pub NamesState : Spine → TotFault → Type 0
NamesState sp (totals.Missing state) = IsUnit sp state
NamesState sp _ = Unit {0}

-- the units that a fault names are the spine's, and the kinds the schema's
abbrev pub NamesKnown : Schema → Spine → Named → Type 0
NamesKnown s sp (named.Totals fault) = NamesState sp fault
NamesKnown s sp (named.Join (join.Short state total needed)) = IsUnit sp state
NamesKnown s sp (named.Join join.NoMemory) = Unit {0}
NamesKnown s sp (named.Hist (hist.NoFacility block kind)) = IsPair s sp block kind
NamesKnown s sp (named.Hist (hist.Short block kind found needed)) = IsPair s sp block kind
