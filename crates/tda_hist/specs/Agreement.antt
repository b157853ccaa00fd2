-- Whether the persons of each block agree with its facilities: of each kind of quarters but the first nobody where there is
-- no facility, and else at least one for each.
use Rattle.std.specs.Prelude.{◌-◌, ◌&&◌, ◌==◌, ℕ, Bool, List, [], ◌∷◌, nat_lt, if◌then◌else◌, Option, slice_get, Result}
use Rattle.std.specs.List.{flat_map, range_with_len}
use Rattle.tda_model.specs.Schema.{Schema}
use Rattle.tda_model.specs.Groups.{kind_count}
use Rattle.tda_model.specs.Spine.{Spine, units_at}
use Rattle.tda_model.specs.Tables.{Tables, kind_sum}
use Rattle.tda_io.specs.Due.{none_of}
use Rattle.tda_invar.specs.KindTable.{NumberTable, number_at}
use Rattle.tda_hist.specs.declared.fault.HistFault.{HistFault}
use Rattle.tda_hist.specs.declared.fault.HistFault.TheVariants.{NoFacility, Short}

-- how many persons of the kind live in the block
abbrev pub found : Schema → Tables → ℕ → ℕ → ℕ
found s x block kind = kind_sum s kind (x block)

-- persons of the kind live in the block, and no facility of it stands there
abbrev pub has_no_facility : Schema → NumberTable → Tables → ℕ → ℕ → Bool
has_no_facility s facilities x block kind = nat_lt 0 (found s x block kind) && (number_at facilities block kind == 0)

-- fewer persons of the kind live in the block than facilities of it stand there
abbrev pub is_short : Schema → NumberTable → Tables → ℕ → ℕ → Bool
is_short s facilities x block kind = nat_lt (found s x block kind) (number_at facilities block kind)

-- what is wrong with a block and a kind: nothing with households, which any block may have
abbrev pub faults_at : Schema → NumberTable → Tables → ℕ → ℕ → List HistFault
faults_at s facilities x block kind =
    if kind == 0 then []
    else if has_no_facility s facilities x block kind then NoFacility block kind ∷ []
    else if is_short s facilities x block kind then Short block kind (found s x block kind) (number_at facilities block kind) ∷ []
    else []

abbrev pub block_faults : Schema → NumberTable → Tables → ℕ → List HistFault
block_faults s facilities x block = flat_map (faults_at s facilities x block) (range_with_len 0 (kind_count s))

-- all that is wrong, in the order block, kind
abbrev pub faults : Schema → Spine → NumberTable → Tables → List HistFault
faults s sp facilities x = flat_map (block_faults s facilities x) (units_at sp (sp.depth - 1))

-- the first fault
abbrev pub agree_fault : Schema → Spine → NumberTable → Tables → Option HistFault
agree_fault s sp facilities x = slice_get (faults s sp facilities x) 0

abbrev pub agree_due : Schema → Spine → NumberTable → Tables → Result (Unit {0}) HistFault
agree_due s sp facilities x = none_of (agree_fault s sp facilities x)
