use Rattle.std.proofs.Common.{◌≡◌, map, string_bytes, length}
use Rattle.tda_command.specs.Words.{pairs_of, value_in}
use Rattle.tda_command.proofs.words.value_beside.Given as goal

abbrev pub invariant-loop-rest : goal.invariant-loop-rest
invariant-loop-rest l = value_in (pairs_of (map string_bytes l.rest)) l.name ≡ value_in (pairs_of (map string_bytes l.pairs)) l.name

abbrev pub decreases-loop-rest : goal.decreases-loop-rest
decreases-loop-rest l = length l.rest
