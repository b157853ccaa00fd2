use Rattle.std.proofs.Common.{◌≡◌, ℕ, ◌<◌, None}
use Rattle.tda_cancel.specs.Rows.{last_at}
use Rattle.tda_cancel.proofs.rows.first_change.Given as goal

abbrev pub invariant-loop-v : goal.invariant-loop-v
invariant-loop-v l = (k : ℕ) → k < l.v → last_at l.lasts k ≡ None
