use Rattle.std.proofs.Common.{◌≡◌, map}
use Rattle.std.specs.List.{range_with_len}
use Rattle.tda_sets.specs.Family.{is_in}
use Rattle.tda_sets.proofs.counted.least_members.Given as goal

abbrev pub invariant-loop-number : goal.invariant-loop-number
invariant-loop-number l = l.marks.items ≡ map (λ r. is_in l.names r r) (range_with_len 0 l.number)
