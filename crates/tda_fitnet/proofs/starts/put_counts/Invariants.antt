use Rattle.std.proofs.Common.{◌≡◌, ℕ, ◌<◌, ◌≤◌, length, slice_index}
use Rattle.tda_fitnet.proofs.starts.put_counts.Given as goal

abbrev pub invariant-loop-r : goal.invariant-loop-r
invariant-loop-r l =
    (length l.flow ≡ length l.fn.flow)
    × ((r : ℕ) → r < l.r → slice_index l.flow r ≡ slice_index l.table (slice_index l.cells r))
    × ((r : ℕ) → l.r ≤ r → slice_index l.flow r ≡ slice_index l.fn.flow r)
