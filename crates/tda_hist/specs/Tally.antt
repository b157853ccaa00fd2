-- Counts of records by two numbers of each, and a unit's table put in the place of another.
use Rattle.std.specs.Prelude.{◌≡◌, ◌<◌, ◌&&◌, ◌==◌, ℕ, List, count_by}
use Rattle.tda_model.specs.Schema.{Schema}
use Rattle.tda_model.specs.Spine.{Spine}
use Rattle.tda_model.specs.Tables.{Table, Tables}
use Rattle.tda_out.specs.Counts.{Counts, count_at, AreCountsOf}
use Rattle.tda_records.specs.declared.records.Record.{Record}

-- how many records have these two numbers
abbrev pub tallied : (Record → ℕ) → (Record → ℕ) → List Record → Tables
tallied f g records u j = count_by (λ r. (f r == u) && (g r == j)) records

-- the new counts are those of a table for the first cells of a unit, and else the old ones
pub record HasTable (s : Schema) (sp : Spine) (old new : Counts) (unit cells : ℕ) (x : Table) : Type 0 where
  pub counts : AreCountsOf s sp new
  pub own : (j : ℕ) → j < cells → count_at new unit j ≡ x j
  pub others : (u j : ℕ) → (u ≡ unit → j < cells → ⊥) → count_at new u j ≡ count_at old u j
