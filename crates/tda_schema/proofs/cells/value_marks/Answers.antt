use Rattle.tda_schema.proofs.Marks.{marked_all}
use Rattle.tda_schema.proofs.cells.value_marks.Goals as goal

pub returns : goal.returns
returns c = marked_all c.args.count c.args.values.now c.loop-value.value-index c.loop-value.marks.items c.loop-value-test.false c.loop-value.invariant
