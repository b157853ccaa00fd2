-- What is published exactly, the bounds that it gives each unit, and that no fit is infeasible.
use Rattle.std.specs.Prelude.{◌≡◌, ◌+◌, ◌<◌, ◌≤◌, ◌↔◌, ◌==◌, ℕ, Bool, List, map, length, nat_lt, if◌then◌else◌, Option, Some, None, option_map, find, Result, Ok}
use Rattle.tda_model.specs.Schema.{Schema}
use Rattle.tda_model.specs.Groups.{kind_count}
use Rattle.tda_model.specs.Spine.{Spine, IsUnit, IsTree, level_of, nation_of, units_at, unit_numbers, children_of, is_at}
use Rattle.tda_model.specs.Tables.{Table, Tables, Published, persons_in, Attainable}
use Rattle.tda_model.specs.Bounds.{persons_limit, low, high, needed, InBounds, MostHolds, HasKinds, TotalsSuffice}
use Rattle.tda_model.specs.Least.{IsFamily}
use Rattle.tda_io.specs.Due.{◌>>◌, none_of}
use Rattle.tda_invar.specs.KindTable.{NumberTable, number_at, table_of}
use Rattle.tda_invar.specs.Facilities.{IsTableOf}
use Rattle.tda_invar.specs.Totals.{AreTotalsOf, total_of}
use Rattle.tda_invar.specs.declared.join_fault.JoinFault.{JoinFault}
use Rattle.tda_invar.specs.declared.join_fault.JoinFault.TheVariants.{Short}

-- as many persons as there may be where there is a facility, and nobody where there is none
abbrev pub most_of : ℕ → ℕ
most_of facilities = if facilities == 0 then 0 else persons_limit

-- what facilities and totals say of blocks and states
abbrev pub known : Spine → NumberTable → List ℕ → Published
known sp facilities totals = record {
  facilities = number_at facilities;
  most = λ block kind. most_of (number_at facilities block kind);
  total = total_of sp totals;
}

-- a state's total is below the persons that its facilities need
abbrev pub is_short : Schema → Spine → Published → ℕ → Bool
is_short s sp p state = nat_lt (p.total state) (needed s sp p state)

abbrev pub short_of : Schema → Spine → Published → ℕ → JoinFault
short_of s sp p state = Short state (p.total state) (needed s sp p state)

-- the fault of the first such state
abbrev pub join_fault : Schema → Spine → Published → Option JoinFault
join_fault s sp p = option_map (short_of s sp p) (find (is_short s sp p) (units_at sp 1))

abbrev pub join_due : Schema → Spine → Published → Result (Unit {0}) JoinFault
join_due s sp p = none_of (join_fault s sp p)

-- facilities and totals with what follows of them: the least persons of each unit and kind, and for each unit its total
-- where it is a state
pub record JoinedLists : Type 0 where
  pub facilities : NumberTable
  pub totals : List ℕ
  pub lows : NumberTable
  pub unit_totals : List (Option ℕ)

abbrev pub known_of : Spine → JoinedLists → Published
known_of sp inv = known sp inv.facilities inv.totals

-- the total of a state, and nothing for another unit
abbrev pub unit_total : Spine → Published → ℕ → Option ℕ
unit_total sp p unit = if is_at sp 1 unit then Some (p.total unit) else None

abbrev pub lows_of : Schema → Spine → Published → NumberTable
lows_of s sp p = table_of (length sp.units) (kind_count s) (low sp p)

-- the least persons of a unit are no more than there may be, those of a kind no more than its most, and that no more than
-- there may be
pub record BoundsFit (s : Schema) (sp : Spine) (p : Published) : Type 0 where
  pub all_kinds : (u : ℕ) → IsUnit sp u → needed s sp p u ≤ persons_limit
  pub ordered : (u k : ℕ) → IsUnit sp u → k < kind_count s → low sp p u k ≤ high sp p u k
  pub limited : (u k : ℕ) → IsUnit sp u → k < kind_count s → high sp p u k ≤ persons_limit

-- what is joined belongs to the schema and the spine, no state is short, and so the bounds fit
pub record IsJoined (s : Schema) (sp : Spine) (inv : JoinedLists) : Type 0 where
  pub facilities : IsTableOf s sp inv.facilities
  pub totals : AreTotalsOf sp inv.totals
  pub lows : inv.lows ≡ lows_of s sp (known_of sp inv)
  pub unit_totals : inv.unit_totals ≡ map (unit_total sp (known_of sp inv)) (unit_numbers sp)
  pub low_units : inv.lows.units ≡ length sp.units
  pub low_kinds : inv.lows.kinds ≡ kind_count s
  pub total_units : length inv.unit_totals ≡ length sp.units
  pub tree : IsTree sp (nation_of sp)
  pub kinds : HasKinds s
  pub most : MostHolds (known_of sp inv)
  pub suffice : TotalsSuffice s sp (known_of sp inv)
  pub fits : BoundsFit s sp (known_of sp inv)

-- The nation has a table, no table that it can have counts too many persons, and each table that a unit with children can
-- have splits into tables that its children can have. Below the nation a unit can have, of the tables that don't count
-- too many persons, exactly those within its bounds.
pub record AlwaysExists (s : Schema) (sp : Spine) (p : Published) : Type 0 where
  pub nation : (x : Table) × Attainable s sp p (nation_of sp) x
  pub few : (x : Table) → Attainable s sp p (nation_of sp) x → persons_in s x ≤ persons_limit
  pub splits : (u : ℕ) → IsUnit sp u → level_of sp u + 1 < sp.depth → (x : Table) → Attainable s sp p u x
      → (family : Tables) × IsFamily (Attainable s sp p) s (children_of sp u) x family
  pub bounds : (u : ℕ) → IsUnit sp u → 1 ≤ level_of sp u → (x : Table) → persons_in s x ≤ persons_limit
      → (Attainable s sp p u x ↔ InBounds s sp p u x)
