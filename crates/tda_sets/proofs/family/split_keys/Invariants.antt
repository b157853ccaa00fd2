use Rattle.std.proofs.Common.{◌≡◌, map}
use Rattle.std.specs.List.{range_with_len}
use Rattle.tda_sets.specs.Family.{split_key}
use Rattle.tda_sets.proofs.family.split_keys.Given as goal

abbrev pub invariant-loop-number : goal.invariant-loop-number
invariant-loop-number l = l.keys.items ≡ map (split_key l.names l.values l.digits) (range_with_len 0 l.number)
