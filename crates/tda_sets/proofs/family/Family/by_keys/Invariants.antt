use Rattle.std.proofs.Common.{◌≡◌, length, map}
use Rattle.std.specs.List.{range_with_len}
use Rattle.tda_sets.specs.Family.{is_member, are_together, name_of}
use Rattle.tda_sets.proofs.Keys.{IsTable}
use Rattle.tda_sets.proofs.family.Family.by_keys.Given as goal

abbrev pub invariant-loop-number : goal.invariant-loop-number
invariant-loop-number l = record {
  table : IsTable l.keys l.bound l.number l.firsts.items;
  names : l.names.items ≡ map (name_of (length l.keys) (is_member l.keys) (are_together l.keys)) (range_with_len 0 l.number);
}
