use Rattle.std.proofs.Common.{◌≡◌, ℕ, ◌+◌, ◌-◌, ◌*◌, ◌^◌, ◌<◌, ◌≤◌, pos, ◌≤ℤ◌, vec_len}
use Rattle.tda_flow.specs.Network.{arc_count}
use Rattle.tda_scale.specs.Spots.{spot_at}
use Rattle.tda_scale.specs.Searching.{price_of, AreFresh}
use Rattle.tda_scale.specs.Priced.{IsPriced}
use Rattle.tda_scale.specs.Tracked.{IsTracked}
use Rattle.tda_scale.specs.Phase.{square, HasRoom, AreWithin}
use Rattle.tda_scale.proofs.scale.run_phases.Given as goal

abbrev pub invariant-loop-left : goal.invariant-loop-left
invariant-loop-left l = record {
  few : l.left ≤ l.first;
  tracked : IsTracked l.body.net.now l.flow l.tables.spots.items;
  priced : IsPriced square l.body.net.now (2 ^ l.left) l.flow (price_of l.tables.spots.items);
  done : l.left ≡ 0 → (v : ℕ) → v < l.body.net.now.nodes → (spot_at l.tables.spots.items v).excess ≤ℤ pos 0;
  fresh : AreFresh l.tables.spots.items;
  quotes : vec_len l.tables.quotes ≡ arc_count l.body.net.now;
  shut : vec_len l.tables.shut ≡ l.body.net.now.nodes;
  own_room : HasRoom l.body.net.now.nodes (arc_count l.body.net.now) l.tables;
  small : AreWithin (2 ^ 88 + (l.first - l.left) * 2 ^ 78) l.tables.spots.items;
  room : (n m : ℕ) → HasRoom n m l.fn.tables → HasRoom n m l.tables;
}

abbrev pub decreases-loop-left : goal.decreases-loop-left
decreases-loop-left l = l.left
