use Rattle.std.proofs.Common.{◌||◌, nat_lt, length, slice_index}
use Rattle.std.specs.List.{range_with_len}
use Rattle.tda_model.specs.Bounds.{low, high}
use Rattle.tda_model.specs.Schema.{Schema}
use Rattle.tda_model.specs.Spine.{Spine}
use Rattle.tda_spine.proofs.Firsts.{FailsBefore}
use Rattle.tda_invar.specs.Known.{IsJoined, known_of}
use Rattle.tda_audit.proofs.rules.unbounded_kind.Given as goal

abbrev pub invariant-loop-kind : goal.invariant-loop-kind
invariant-loop-kind l =
    (s : Schema) (sp : Spine) → IsJoined s sp l.inv
    → FailsBefore (λ k. nat_lt (slice_index l.counts k) (low sp (known_of sp l.inv) l.unit k) || nat_lt (high sp (known_of sp l.inv) l.unit k) (slice_index l.counts k))
    (range_with_len 0 (length l.counts)) l.kind
