use Rattle.tda_scale.specs.Warm.{ArePriced}
use Rattle.tda_scale.proofs.warm.set_prices.Given as goal

abbrev pub invariant-loop-v : goal.invariant-loop-v
invariant-loop-v l = ArePriced l.prices l.v l.fn.spots l.spots
