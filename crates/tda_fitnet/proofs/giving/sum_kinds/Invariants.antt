use Rattle.std.proofs.Common.{◌≡◌, ℕ, ◌<◌, length, slice_index}
use Rattle.tda_model.specs.Cells.{kind_of}
use Rattle.tda_fitnet.specs.Giving.{kind_part}
use Rattle.tda_fitnet.proofs.giving.sum_kinds.Given as goal

abbrev pub invariant-loop-r : goal.invariant-loop-r
invariant-loop-r l =
    (length l.sums ≡ length l.fn.sums)
    × ((k : ℕ) → k < length l.fn.sums → slice_index l.sums k ≡ kind_part (λ r. kind_of l.schema (slice_index l.cells r)) k (slice_index l.flow) l.r)
