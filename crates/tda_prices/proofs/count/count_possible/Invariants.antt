use Rattle.std.proofs.Common.{◌≡◌, ◌≤◌, take, count_by}
use Rattle.tda_model.specs.Cells.{is_possible, all_cells}
use Rattle.tda_prices.proofs.count.count_possible.Given as goal

abbrev pub invariant-loop-cell : goal.invariant-loop-cell
invariant-loop-cell l = (l.count ≡ count_by (is_possible l.schema) (take l.cell (all_cells l.schema))) × (l.count ≤ l.cell)
