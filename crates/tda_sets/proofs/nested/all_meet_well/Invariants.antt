use Rattle.std.proofs.Common.{◌≡◌, true}
use Rattle.std.specs.List.{list_all, range_with_len}
use Rattle.tda_sets.specs.Nested.{meets_well}
use Rattle.tda_sets.proofs.nested.all_meet_well.Given as goal

abbrev pub invariant-loop-number : goal.invariant-loop-number
invariant-loop-number l = list_all (meets_well l.one l.other) (range_with_len 0 l.number) ≡ true
