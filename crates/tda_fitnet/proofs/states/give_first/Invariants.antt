use Rattle.std.proofs.Common.{◌≡◌, ◌⊎◌, ℕ, ◌+◌, ◌<◌, ◌≤◌, length, slice_index}
use Rattle.tda_model.specs.Cells.{kind_of}
use Rattle.tda_fitnet.specs.Giving.{kind_part}
use Rattle.tda_fitnet.proofs.states.give_first.Given as goal

abbrev pub invariant-loop-r : goal.invariant-loop-r
invariant-loop-r l =
    (length l.flow ≡ length l.fn.flow)
    × (length l.sums ≡ length l.fn.sums)
    × ((k : ℕ) → k < length l.fn.sums
    → slice_index l.sums k + kind_part (λ r. kind_of l.schema (slice_index l.cells r)) k (λ r. slice_index l.flow (l.first + r)) l.r ≡ slice_index l.fn.sums k)
    × ((k q : ℕ) → q < l.r → kind_of l.schema (slice_index l.cells q) ≡ k → slice_index l.sums k ≡ 0)
    × ((j : ℕ) → (j < l.first) ⊎ (l.first + length l.cells ≤ j) → slice_index l.flow j ≡ slice_index l.fn.flow j)
