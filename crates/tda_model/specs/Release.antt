-- A release: what `fit` owes, said of persons.
use Rattle.std.specs.Prelude.{ℕ, ℤ, slice_get, Some, None}
use Rattle.tda_model.specs.Schema.{Schema}
use Rattle.tda_model.specs.Commons.{common_of}
use Rattle.tda_model.specs.Spine.{Spine, level_of}
use Rattle.tda_model.specs.Tables.{Table, Tables, Published, Attainable}
use Rattle.tda_model.specs.Deviation.{deviation}
use Rattle.tda_model.specs.Least.{ReleaseOf}
use Rattle.tda_model.specs.First.{FirstRelease}

-- what the tables are made from: everything that is published, and no records
pub record Inputs : Type 0 where
  pub schema : Schema
  pub spine : Spine
  pub known : Published
  pub measured : ℕ → ℕ → ℕ → ℤ  -- of unit, query and class

abbrev pub deviation_at : (ℤ → ℕ) → Inputs → ℕ → Table → ℕ
deviation_at curve i u x =
    elim (slice_get i.schema.levels (level_of i.spine u)) [ Some l ↦ deviation curve i.schema (common_of i.schema) l (i.measured u) x | None ↦ 0 ]

abbrev pub CanBe : Inputs → ℕ → Table → Type 0
CanBe i u x = Attainable i.schema i.spine i.known u x

-- least at the root, and at each unit with children given its table
abbrev pub IsRelease : (ℤ → ℕ) → Inputs → Tables → Type 0
IsRelease curve i x = ReleaseOf (CanBe i) (deviation_at curve i) i.schema i.spine x

-- and of all such tables the first at each fit
abbrev pub IsFirstRelease : (ℤ → ℕ) → Inputs → Tables → Type 0
IsFirstRelease curve i x = FirstRelease (CanBe i) (deviation_at curve i) i.schema i.spine x
