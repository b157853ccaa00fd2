use Rattle.tda_schema.proofs.KindMarks.{AreKindMarks}
use Rattle.tda_schema.proofs.kinds.kind_marks.Given as goal

abbrev pub invariant-loop-cell : goal.invariant-loop-cell
invariant-loop-cell l = AreKindMarks l.possible l.kinds l.count l.cell l.marks.items
