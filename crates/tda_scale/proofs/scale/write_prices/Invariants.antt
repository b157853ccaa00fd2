use Rattle.std.proofs.Common.{◌≡◌, ℕ, ◌<◌, ◌-ℤ◌}
use Rattle.tda_flow.specs.Certificate.{price_at}
use Rattle.tda_scale.specs.Searching.{price_of}
use Rattle.tda_scale.proofs.scale.write_prices.Given as goal

abbrev pub invariant-loop-v : goal.invariant-loop-v
invariant-loop-v l = (k : ℕ) → k < l.v → price_at l.prices k ≡ price_of l.spots k -ℤ price_of l.spots 0
