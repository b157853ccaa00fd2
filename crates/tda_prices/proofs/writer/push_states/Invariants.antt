use Rattle.std.proofs.Common.{None, drop}
use Rattle.tda_model.specs.Spine.{units_at}
use Rattle.tda_prices.specs.Items.{OfState}
use Rattle.tda_prices.specs.Parts.{rows_of, state_rows}
use Rattle.tda_prices.proofs.Writing.{Writes}
use Rattle.tda_prices.proofs.writer.push_states.Given as goal

abbrev pub invariant-loop-index : goal.invariant-loop-index
invariant-loop-index l = Writes (state_rows l.spine) l.prices (rows_of l.spine None OfState (drop l.index (units_at l.spine 1))) (drop l.index l.prices) l.fn.out.items l.out.items
