use Rattle.std.proofs.Common.{◌≡◌, length}
use Rattle.tda_model.specs.Cells.{cell_count}
use Rattle.tda_schema.specs.Stated.{query_at}
use Rattle.tda_out.specs.Counts.{count_at}
use Rattle.tda_audit.proofs.SumsBy.{AreSums}
use Rattle.tda_audit.proofs.Deviations.{is_of_class}
use Rattle.tda_audit.proofs.distance.count_classes.Given as goal

abbrev pub invariant-loop-cell : goal.invariant-loop-cell
invariant-loop-cell l = record {
  size : length l.counts ≡ cell_count l.schema;
  sums : AreSums (is_of_class l.schema (query_at l.schema l.level l.query)) (count_at l.tables l.unit) l.cell l.counts;
}
