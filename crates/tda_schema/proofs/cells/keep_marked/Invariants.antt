use Rattle.std.proofs.Common.{get_or, false}
use Rattle.tda_schema.proofs.Marks.{AreJudged}
use Rattle.tda_schema.proofs.cells.keep_marked.Given as goal

abbrev pub invariant-loop-cell : goal.invariant-loop-cell
invariant-loop-cell l = AreJudged (λ i. get_or l.marks (get_or l.column i 0) false) l.initial.cells l.cell l.cells
