use Rattle.std.proofs.Common.{◌≡◌, length}
use Rattle.tda_flow_tests.proofs.reach.bounds.Given as goal

abbrev pub invariant-loop-arc : goal.invariant-loop-arc
invariant-loop-arc l = (length l.work.low ≡ 5) × (length l.work.ranks ≡ 5)
