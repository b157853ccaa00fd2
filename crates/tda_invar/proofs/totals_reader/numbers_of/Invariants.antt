use Rattle.std.proofs.Common.{◌≡◌, take, map, unwrap_or, get_or, None}
use Rattle.tda_invar.proofs.totals_reader.numbers_of.Given as goal

abbrev pub invariant-loop-state : goal.invariant-loop-state
invariant-loop-state l = l.numbers.items ≡ map (λ u. unwrap_or (get_or l.entries u None) 0) (take l.state-index l.states)
