use Rattle.std.proofs.Common.{◌≡◌, ◌^◌, length, All}
use Rattle.tda_loss.specs.Curve.{IsWithin}
use Rattle.tda_guess.proofs.prices.write_prices.Given as goal

abbrev pub invariant-loop-node : goal.invariant-loop-node
invariant-loop-node l = record {
  count : length l.prices.items ≡ l.node;
  near : All (IsWithin (2 ^ 88)) l.prices.items;
}
