use Rattle.std.proofs.Common.{◌≡◌, ◌==◌, length}
use Rattle.tda_model.specs.Cells.{kind_of}
use Rattle.tda_model.specs.Groups.{kind_count}
use Rattle.tda_out.specs.Counts.{count_at}
use Rattle.tda_audit.proofs.SumsBy.{AreSums}
use Rattle.tda_audit.proofs.rules.count_kinds.Given as goal

abbrev pub invariant-loop-cell : goal.invariant-loop-cell
invariant-loop-cell l = record {
  size : length l.counts ≡ kind_count l.schema;
  sums : AreSums (λ k j. kind_of l.schema j == k) (count_at l.tables l.unit) l.cell l.counts;
}
