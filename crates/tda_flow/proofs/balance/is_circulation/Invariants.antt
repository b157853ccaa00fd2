use Rattle.std.proofs.Common.{◌≡◌, ℕ, ◌<◌}
use Rattle.tda_flow.specs.Flow.{into, out_of}
use Rattle.tda_flow.proofs.balance.is_circulation.Given as goal

abbrev pub invariant-loop-v : goal.invariant-loop-v
invariant-loop-v l = (u : ℕ) → u < l.v → into l.net l.flow u ≡ out_of l.net l.flow u
