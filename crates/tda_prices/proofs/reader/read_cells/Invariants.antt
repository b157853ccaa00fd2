use Rattle.std.proofs.Common.{Some, drop, filter}
use Rattle.tda_model.specs.Cells.{all_cells, is_possible}
use Rattle.tda_prices.specs.Items.{OfCell}
use Rattle.tda_prices.specs.Left.{Reads}
use Rattle.tda_prices.specs.Parts.{cell_rows, rows_of}
use Rattle.tda_prices.proofs.reader.read_cells.Given as goal

abbrev pub invariant-loop-cell : goal.invariant-loop-cell
invariant-loop-cell l =
    Reads (cell_rows l.schema l.spine l.parent) (rows_of l.spine (Some l.parent) OfCell (filter (is_possible l.schema) (drop l.cell (all_cells l.schema)))) l.initial.rows l.rows l.initial.prices.items l.prices.items
