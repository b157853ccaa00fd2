use Rattle.std.proofs.Common.{get_or, false, not}
use Rattle.tda_schema.proofs.Marks.{AreJudged}
use Rattle.tda_schema.proofs.cells.leave_out.Given as goal

abbrev pub invariant-loop-cell : goal.invariant-loop-cell
invariant-loop-cell l = AreJudged (λ i. not (get_or l.others i false)) l.initial.cells l.cell l.cells
