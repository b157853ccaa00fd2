use Rattle.std.proofs.Common.{ℕ, ◌<◌}
use Rattle.tda_scale.specs.Searching.{price_of}
use Rattle.tda_scale.specs.Adjusted.{KeepsAt}
use Rattle.tda_scale.specs.Tracked.{IsTracked, AreSame}
use Rattle.tda_scale.specs.Phase.{square}
use Rattle.tda_scale.proofs.warm.settle.Given as goal

abbrev pub invariant-loop-i : goal.invariant-loop-i
invariant-loop-i l = record {
  kept : (k : ℕ) → k < l.i → KeepsAt square l.body.net.now 1 l.flow (price_of l.spots) k;
  tracked : IsTracked l.body.net.now l.flow l.spots;
  same : AreSame l.fn.spots l.spots;
}
