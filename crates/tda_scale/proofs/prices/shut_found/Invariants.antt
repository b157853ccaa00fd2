use Rattle.std.proofs.Common.{◌≡◌, length}
use Rattle.tda_scale.specs.Spots.{cleared_spot}
use Rattle.tda_scale.specs.Repricing.{IsClosing, IsLeft}
use Rattle.tda_scale.proofs.prices.shut_found.Given as goal

abbrev pub invariant-loop-node : goal.invariant-loop-node
invariant-loop-node l = record {
  each : IsClosing cleared_spot l.fn.spots l.spots;
  left : IsLeft l.found l.node-index l.spots;
  count : length l.spots ≡ length l.fn.spots;
}
