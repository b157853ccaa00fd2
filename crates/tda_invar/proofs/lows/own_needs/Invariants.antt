use Rattle.std.proofs.Common.{◌≡◌, ◌/◌, ◌%◌, ◌≤◌, All, map}
use Rattle.std.specs.List.{range_with_len}
use Rattle.tda_invar.specs.Facilities.{own_need}
use Rattle.tda_invar.specs.KindTable.{number_limit}
use Rattle.tda_invar.proofs.lows.own_needs.Given as goal

abbrev pub invariant-loop-place : goal.invariant-loop-place
invariant-loop-place l = record {
  needs : l.numbers.items ≡ map (λ place. own_need l.facilities (place / l.facilities.kinds) (place % l.facilities.kinds)) (range_with_len 0 l.place);
  small : All (λ n. n ≤ number_limit) l.numbers.items;
}
