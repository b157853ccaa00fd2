use Rattle.std.proofs.Common.{ℕ, ◌<◌, ◌≤ℤ◌}
use Rattle.tda_scale.specs.Spots.{spot_at}
use Rattle.tda_scale.proofs.warm.greatest_excess.Given as goal

abbrev pub invariant-loop-spot : goal.invariant-loop-spot
invariant-loop-spot l = (v : ℕ) → v < l.spot-index → (spot_at l.spots v).excess ≤ℤ l.most
