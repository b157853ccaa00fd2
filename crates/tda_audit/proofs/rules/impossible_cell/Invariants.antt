use Rattle.std.proofs.Common.{◌==◌, ◌&&◌, not}
use Rattle.tda_model.specs.Cells.{all_cells, is_possible}
use Rattle.tda_spine.proofs.Firsts.{FailsBefore}
use Rattle.tda_out.specs.Counts.{count_at}
use Rattle.tda_audit.proofs.rules.impossible_cell.Given as goal

abbrev pub invariant-loop-cell : goal.invariant-loop-cell
invariant-loop-cell l = FailsBefore (λ j. not (is_possible l.schema j) && not (count_at l.tables l.unit j == 0)) (all_cells l.schema) l.cell
