use Rattle.std.proofs.Common.{◌≡◌, filter}
use Rattle.std.specs.List.{range_with_len}
use Rattle.tda_model.specs.Cells.{is_possible}
use Rattle.tda_groups.proofs.sources.possible_cells.Given as goal

abbrev pub invariant-loop-cell : goal.invariant-loop-cell
invariant-loop-cell l = l.set ≡ filter (is_possible l.schema) (range_with_len 0 l.cell)
