use Rattle.std.proofs.Common.{None, drop}
use Rattle.tda_prices.specs.Items.{OfState}
use Rattle.tda_prices.specs.Left.{Reads}
use Rattle.tda_prices.specs.Parts.{rows_of, state_rows}
use Rattle.tda_prices.proofs.reader.read_states.Given as goal

abbrev pub invariant-loop-state : goal.invariant-loop-state
invariant-loop-state l =
    Reads (state_rows l.spine) (rows_of l.spine None OfState (drop l.state-index l.state-items)) l.initial.rows l.rows l.initial.prices.items l.prices.items
