use Rattle.std.proofs.Common.{◌≡◌, length}
use Rattle.tda_flow.specs.Network.{arc_count}
use Rattle.tda_scale.specs.Adjusted.{AreKept}
use Rattle.tda_scale.specs.Tracked.{IsTracked, AreSame}
use Rattle.tda_scale.proofs.adjust.adjust.Given as goal

abbrev pub invariant-loop-i : goal.invariant-loop-i
invariant-loop-i l = record {
  kept : AreKept l.body.net.now l.body.slopes.now l.step l.i l.flow l.spots l.quotes;
  tracked : IsTracked l.body.net.now l.flow l.spots;
  same : AreSame l.fn.spots l.spots;
  count : length l.quotes ≡ arc_count l.body.net.now;
}
