use Rattle.std.proofs.Common.{◌≡◌, ◌⊎◌, ℕ, ◌+◌, ◌<◌, ◌≤◌, length, slice_index, sum_by}
use Rattle.std.specs.List.{range_with_len}
use Rattle.tda_model.specs.Bounds.{low}
use Rattle.tda_invar.specs.Known.{known_of}
use Rattle.tda_fitnet.proofs.states.put_state.Given as goal

abbrev pub invariant-loop-kind : goal.invariant-loop-kind
invariant-loop-kind l =
    (1 ≤ l.kind)
    × (length l.flow ≡ length l.fn.flow)
    × (length l.sums ≡ length l.fn.sums)
    × (l.rest + sum_by (low l.spine (known_of l.spine l.inv) (slice_index l.states l.n)) (range_with_len 0 l.kind) ≡ l.total)
    × ((k : ℕ) → 1 ≤ k → k < l.kind → slice_index l.flow (l.first + k) ≡ low l.spine (known_of l.spine l.inv) (slice_index l.states l.n) k)
    × ((j : ℕ) → (j ≤ l.first) ⊎ (l.first + l.kind ≤ j) → slice_index l.flow j ≡ slice_index l.initial.flow j)
    × ((k : ℕ) → 1 ≤ k → k < l.kind → slice_index l.sums k ≡ slice_index l.fn.sums k + low l.spine (known_of l.spine l.inv) (slice_index l.states l.n) k)
    × ((k : ℕ) → (k < 1) ⊎ (l.kind ≤ k) → slice_index l.sums k ≡ slice_index l.fn.sums k)
