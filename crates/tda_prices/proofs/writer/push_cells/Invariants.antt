use Rattle.std.proofs.Common.{◌≡◌, ◌+◌, Some, drop, filter, length}
use Rattle.tda_model.specs.Cells.{all_cells, is_possible}
use Rattle.tda_prices.specs.Items.{OfCell}
use Rattle.tda_prices.specs.Parts.{cell_rows, rows_of}
use Rattle.tda_prices.proofs.Writing.{Writes}
use Rattle.tda_prices.proofs.writer.push_cells.Given as goal

abbrev pub invariant-loop-cell : goal.invariant-loop-cell
invariant-loop-cell l = record {
  writes : Writes (cell_rows l.schema l.spine l.parent) l.prices (rows_of l.spine (Some l.parent) OfCell (filter (is_possible l.schema) (drop l.cell (all_cells l.schema)))) (drop l.index l.prices) l.fn.out.items l.out.items;
  left : l.index + length (filter (is_possible l.schema) (drop l.cell (all_cells l.schema))) ≡ length l.prices;
}
