-- The shares from which the nation's fit begins: each state has of each kind what its facilities need, and the rest of its total in
-- the first kind.
use Rattle.std.specs.Prelude.{ℕ, ◌+◌, ◌-◌, ◌==◌, cond, slice_index}
use Rattle.tda_model.specs.Schema.{Schema}
use Rattle.tda_model.specs.Spine.{Spine, units_at}
use Rattle.tda_model.specs.Tables.{Published}
use Rattle.tda_model.specs.Bounds.{low, needed}

abbrev pub plain_share : Schema → Spine → Published → ℕ → ℕ → ℕ
plain_share s sp known st k = cond (k == 0) (known.total st - needed s sp known st) 0 + low sp known st k

-- that of the n-th state
abbrev pub plain_at : Schema → Spine → Published → ℕ → ℕ → ℕ
plain_at s sp known n k = plain_share s sp known (slice_index (units_at sp 1) n) k
