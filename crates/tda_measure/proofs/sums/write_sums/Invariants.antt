use Rattle.tda_out.specs.Counts.{count_at}
use Rattle.tda_schema.specs.Stated.{query_at}
use Rattle.tda_measure.proofs.ClassSums.{AreParts}
use Rattle.tda_measure.proofs.sums.write_sums.Given as goal

abbrev pub invariant-loop-cell : goal.invariant-loop-cell
invariant-loop-cell l = AreParts l.schema (query_at l.schema l.level l.query) (count_at l.tables l.unit) l.cell l.sums
