use Rattle.std.proofs.Common.{◌≡◌, ℕ, ◌<◌, ◌-ℤ◌}
use Rattle.tda_flow.specs.Certificate.{price_at}
use Rattle.tda_cancel.specs.Rows.{cost_at}
use Rattle.tda_cancel.proofs.cancel.write_prices.Given as goal

abbrev pub invariant-loop-v : goal.invariant-loop-v
invariant-loop-v l = (k : ℕ) → k < l.v → price_at l.prices k ≡ cost_at l.costs k -ℤ l.hub
