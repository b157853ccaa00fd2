use Rattle.std.proofs.Common.{◌≡◌, ◌≤◌, ◌*◌, ◌+◌}
use Rattle.tda_model.specs.Cells.{cells_in}
use Rattle.tda_schema.proofs.CellOf.{AreValues, reached}
use Rattle.tda_schema.proofs.readers.Schema.cell_of.Given as goal

abbrev pub invariant-loop-attribute : goal.invariant-loop-attribute
invariant-loop-attribute l = record {
  are_values : AreValues l.attribute-iterator.a.rest.now l.attribute-iterator.b.rest.now;
  reaches : reached l.cell l.attribute-iterator.a.rest.now l.attribute-iterator.b.rest.now ≡ reached 0 l.self.attributes l.values;
  room : (l.cell + 1) * cells_in l.attribute-iterator.a.rest.now ≤ 4096;
}
