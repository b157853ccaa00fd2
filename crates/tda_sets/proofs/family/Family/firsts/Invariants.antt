use Rattle.std.proofs.Common.{◌≡◌, filter}
use Rattle.std.specs.List.{range_with_len}
use Rattle.tda_sets.specs.Family.{is_in}
use Rattle.tda_sets.proofs.family.Family.firsts.Given as goal

abbrev pub invariant-loop-number : goal.invariant-loop-number
invariant-loop-number l = l.firsts.items ≡ filter (λ i. is_in l.self i i) (range_with_len 0 l.number)
