use Rattle.std.proofs.Common.{◌≡◌, ℕ, ◌+◌, ◌-◌, ◌<◌, ◌≤◌, min, length, slice_index}
use Rattle.tda_model.specs.Bounds.{low, high}
use Rattle.tda_model.specs.Schema.{Schema}
use Rattle.tda_model.specs.Spine.{Spine}
use Rattle.tda_invar.specs.Known.{known_of, IsJoined}
use Rattle.tda_fitnet.proofs.giving.set_quotas.Given as goal

abbrev pub invariant-loop-kind : goal.invariant-loop-kind
invariant-loop-kind l =
    (length l.spare ≡ length l.fn.spare)
    × (length l.quotas ≡ length l.fn.quotas)
    × ((s : Schema) (sp : Spine) → IsJoined s sp l.inv → (k : ℕ) → k < l.kind
    → slice_index l.quotas k ≡ low sp (known_of sp l.inv) l.child k + min (slice_index l.fn.spare k) (high sp (known_of sp l.inv) l.child k - low sp (known_of sp l.inv) l.child k))
    × ((s : Schema) (sp : Spine) → IsJoined s sp l.inv → (k : ℕ) → k < l.kind
    → slice_index l.spare k ≡ slice_index l.fn.spare k - min (slice_index l.fn.spare k) (high sp (known_of sp l.inv) l.child k - low sp (known_of sp l.inv) l.child k))
    × ((k : ℕ) → l.kind ≤ k → slice_index l.spare k ≡ slice_index l.fn.spare k)
