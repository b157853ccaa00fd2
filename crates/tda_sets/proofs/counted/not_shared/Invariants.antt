use Rattle.std.proofs.Common.{◌≡◌, ◌&&◌, not, false, get_or, map}
use Rattle.std.specs.List.{range_with_len}
use Rattle.tda_sets.specs.Counted.{is_shared}
use Rattle.tda_sets.proofs.counted.not_shared.Given as goal

abbrev pub invariant-loop-number : goal.invariant-loop-number
invariant-loop-number l = l.left.items ≡ map (λ r. get_or l.marks r false && not (is_shared l.names l.others r)) (range_with_len 0 l.number)
