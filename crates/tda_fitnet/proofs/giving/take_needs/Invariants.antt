use Rattle.std.proofs.Common.{◌≡◌, ℕ, ◌-◌, ◌<◌, ◌≤◌, length, slice_index}
use Rattle.tda_model.specs.Bounds.{low}
use Rattle.tda_model.specs.Schema.{Schema}
use Rattle.tda_model.specs.Spine.{Spine}
use Rattle.tda_invar.specs.Known.{known_of, IsJoined}
use Rattle.tda_fitnet.proofs.giving.take_needs.Given as goal

abbrev pub invariant-loop-kind : goal.invariant-loop-kind
invariant-loop-kind l =
    (length l.sums ≡ length l.fn.sums)
    × ((s : Schema) (sp : Spine) → IsJoined s sp l.inv → (k : ℕ) → k < l.kind → slice_index l.sums k ≡ slice_index l.fn.sums k - low sp (known_of sp l.inv) l.unit k)
    × ((k : ℕ) → l.kind ≤ k → slice_index l.sums k ≡ slice_index l.fn.sums k)
