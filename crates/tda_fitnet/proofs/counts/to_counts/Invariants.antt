use Rattle.std.proofs.Common.{◌≡◌, ℕ, ◌+◌, ◌*◌, ◌<◌, ◌≤◌, length, slice_index}
use Rattle.tda_fitnet.specs.FitNetwork.{flow_count}
use Rattle.tda_fitnet.proofs.counts.to_counts.Given as goal

abbrev pub invariant-loop-unit : goal.invariant-loop-unit
invariant-loop-unit l =
    (length l.counts ≡ length l.fn.counts)
    × ((u j : ℕ) → u < l.unit → j < l.fit.all_cells → slice_index l.counts (u * l.fit.all_cells + j) ≡ flow_count l.fit l.flow u j)
    × ((k : ℕ) → l.unit * l.fit.all_cells ≤ k → k < length l.fn.counts → slice_index l.counts k ≡ 0)
