use Rattle.std.proofs.Common.{◌≡◌, ℕ, ◌+◌, ◌-◌, ◌*◌, ◌<◌, ◌≤◌, ◌^◌, Some, IsSome}
use Rattle.tda_loss.specs.Curve.{IsWithin}
use Rattle.tda_cancel.specs.Rows.{cost_at, last_at}
use Rattle.tda_cancel.proofs.History.{AreRows}
use Rattle.tda_cancel.proofs.rows.settle_rows.Given as goal

abbrev pub invariant-loop-row : goal.invariant-loop-row
invariant-loop-row l = record {
  rows : AreRows l.steps l.nodes l.lasts l.row (cost_at l.costs);
  near : (v : ℕ) → v < l.nodes → IsWithin (l.row * 2 ^ 61) (cost_at l.costs v);
  changed : 1 ≤ l.row → (v : ℕ) × (l.changed ≡ Some v) × (v < l.nodes) × IsSome (last_at l.lasts ((l.row - 1) * l.nodes + v));
}
