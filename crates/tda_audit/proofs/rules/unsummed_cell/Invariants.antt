use Rattle.std.proofs.Common.{◌==◌, not, sum_by}
use Rattle.tda_model.specs.Cells.{all_cells}
use Rattle.tda_model.specs.Spine.{children_of}
use Rattle.tda_spine.proofs.Firsts.{FailsBefore}
use Rattle.tda_out.specs.Counts.{count_at}
use Rattle.tda_audit.proofs.rules.unsummed_cell.Given as goal

abbrev pub invariant-loop-cell : goal.invariant-loop-cell
invariant-loop-cell l =
    FailsBefore (λ j. not (count_at l.tables l.unit j == sum_by (λ v. count_at l.tables v j) (children_of l.spine l.unit))) (all_cells l.schema) l.cell
