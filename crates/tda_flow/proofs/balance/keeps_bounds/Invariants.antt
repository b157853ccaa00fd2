use Rattle.std.proofs.Common.{ℕ, ◌<◌, ◌≤◌, slice_index}
use Rattle.tda_flow.specs.Network.{arc_at}
use Rattle.tda_flow.proofs.balance.keeps_bounds.Given as goal

abbrev pub invariant-loop-i : goal.invariant-loop-i
invariant-loop-i l = (k : ℕ) → k < l.i → ((arc_at l.net k).low ≤ slice_index l.flow k) × (slice_index l.flow k ≤ (arc_at l.net k).high)
