use Rattle.std.proofs.Common.{length}
use Rattle.tda_cancel.specs.Rows.{cost_at, last_at, IsNextRow}
use Rattle.tda_cancel.proofs.rows.next_row.Given as goal

abbrev pub invariant-loop-place : goal.invariant-loop-place
invariant-loop-place l = IsNextRow l.steps l.place (length l.costs) (cost_at l.before) (cost_at l.costs) (last_at l.lasts)
