use Rattle.tda_schema.proofs.Marks.{AreMarked}
use Rattle.tda_schema.proofs.cells.value_marks.Given as goal

abbrev pub invariant-loop-value : goal.invariant-loop-value
invariant-loop-value l = AreMarked l.count l.values l.value-index l.marks.items
