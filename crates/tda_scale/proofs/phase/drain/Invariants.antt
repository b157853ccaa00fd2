use Rattle.std.proofs.Common.{◌≡◌, ℕ, nat_abs}
use Rattle.tda_scale.specs.Spots.{spot_at}
use Rattle.tda_scale.specs.Phase.{HasRoom, IsReady, IsFloored, NoneGains}
use Rattle.tda_scale.proofs.phase.drain.Given as goal

abbrev pub invariant-loop-flow : goal.invariant-loop-flow
invariant-loop-flow l = record {
  ready : IsReady l.body.net.now l.body.slopes.now l.step l.flow l.tables;
  gains : NoneGains l.source l.fn.tables.spots.items l.tables.spots.items;
  floor : (b : ℕ) → IsFloored l.step b l.fn.tables.spots.items → IsFloored l.step b l.tables.spots.items;
  shut : l.tables.shut ≡ l.fn.tables.shut;
  room : (n m : ℕ) → HasRoom n m l.fn.tables → HasRoom n m l.tables;
}

abbrev pub decreases-loop-flow : goal.decreases-loop-flow
decreases-loop-flow l = nat_abs (spot_at l.tables.spots.items l.source).excess
