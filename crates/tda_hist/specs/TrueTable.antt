-- How many persons live where: the true table of each unit, said record by record.
use Rattle.std.specs.Prelude.{◌&&◌, ◌==◌, ℕ, Bool, List, map, count_by, sum_by}
use Rattle.tda_model.specs.Schema.{Query, Schema}
use Rattle.tda_model.specs.Groups.{class_cells}
use Rattle.tda_model.specs.Spine.{Spine, IsUnit, blocks_of, units_at}
use Rattle.tda_model.specs.Tables.{Table, Tables, AddUp, persons_in}
use Rattle.tda_schema.specs.Parts.{holds}
use Rattle.tda_records.specs.declared.records.Record.{Record}

-- the person's block is one of the unit's
abbrev pub lives_in : Spine → ℕ → Record → Bool
lives_in sp u r = holds (blocks_of sp u) r.block

-- how many of the persons who live in a unit have a cell
abbrev pub true_count : Spine → List Record → Tables
true_count sp records u j = count_by (λ r. lives_in sp u r && (r.cell == j)) records

-- how many of them have a cell of a query's class c
abbrev pub class_persons : Schema → Spine → Query → List Record → Tables
class_persons s sp q records u c = count_by (λ r. lives_in sp u r && holds (class_cells s q c) r.cell) records

-- the counts of a table over the cells of a query's class c
abbrev pub class_sum : Schema → Query → Table → ℕ → ℕ
class_sum s q x c = sum_by x (class_cells s q c)

-- the persons of all units of a level together
abbrev pub persons_at : Schema → Spine → Tables → ℕ → ℕ
persons_at s sp x level = sum_by (λ u. persons_in s (x u)) (units_at sp level)

-- the persons of each state, in file order
abbrev pub state_persons : Schema → Spine → Tables → List ℕ
state_persons s sp x = map (λ st. persons_in s (x st)) (units_at sp 1)

-- each unit's table is those of its blocks together
abbrev pub BlocksAddUp : Schema → Spine → Tables → Type 0
BlocksAddUp s sp x = (u : ℕ) → IsUnit sp u → AddUp s (blocks_of sp u) x (x u)
