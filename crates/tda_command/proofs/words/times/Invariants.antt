use Rattle.std.proofs.Common.{◌≡◌, ◌+◌, ◌≤◌, map, string_bytes, length}
use Rattle.tda_command.specs.Words.{pairs_of, times_in}
use Rattle.tda_command.proofs.words.times.Given as goal

abbrev pub invariant-loop-rest : goal.invariant-loop-rest
invariant-loop-rest l = record {
  counted : l.count + times_in (pairs_of (map string_bytes l.rest)) l.name ≡ times_in (pairs_of (map string_bytes l.pairs)) l.name;
  few : l.count + length l.rest ≤ length l.pairs;
}

abbrev pub decreases-loop-rest : goal.decreases-loop-rest
decreases-loop-rest l = length l.rest
