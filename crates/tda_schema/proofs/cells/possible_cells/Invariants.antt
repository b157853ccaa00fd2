use Rattle.std.proofs.Common.{◌≡◌, map}
use Rattle.tda_model.specs.Cells.{all_cells}
use Rattle.tda_schema.proofs.Possible.{none_matches}
use Rattle.tda_schema.proofs.cells.possible_cells.Given as goal

abbrev pub invariant-loop-row : goal.invariant-loop-row
invariant-loop-row l = l.possible.items ≡ map (none_matches l.stated l.row-index) (all_cells l.stated)
