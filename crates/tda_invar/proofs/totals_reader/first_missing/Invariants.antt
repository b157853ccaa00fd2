use Rattle.std.proofs.Common.{◌≡◌, not, drop, is_some, find, get_or, None}
use Rattle.tda_invar.proofs.totals_reader.first_missing.Given as goal

abbrev pub invariant-loop-state : goal.invariant-loop-state
invariant-loop-state l = find (λ u. not (is_some (get_or l.entries u None))) (drop l.state-index l.states) ≡ find (λ u. not (is_some (get_or l.entries u None))) l.states
