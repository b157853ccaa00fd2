use Rattle.std.proofs.Common.{◌≡◌, ◌≤◌, ◌*◌, ◌^◌, length, take}
use Rattle.tda_model.specs.Groups.{each_once}
use Rattle.tda_sets.specs.Nested.{all_sets}
use Rattle.tda_sets.proofs.AllNested.{lent}
use Rattle.tda_sets.proofs.counted.count_sets.Given as goal

abbrev pub invariant-loop-place : goal.invariant-loop-place
invariant-loop-place l = record {
  count : l.count ≡ length (each_once (all_sets (lent (take l.place l.families))));
  few : l.count ≤ l.place * 2 ^ 32;
}
