use Rattle.tda_scale.specs.Tracked.{IsTracked, AreSame}
use Rattle.tda_scale.proofs.warm.settle_all.Given as goal

abbrev pub invariant-loop-k : goal.invariant-loop-k
invariant-loop-k l = record {
  tracked : IsTracked l.body.net.now l.flow l.spots;
  same : AreSame l.fn.spots l.spots;
}
