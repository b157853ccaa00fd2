use Rattle.std.proofs.Common.{◌≡◌, All, map, length, take}
use Rattle.std.specs.List.{range_with_len}
use Rattle.tda_sets.specs.Family.{IsFamily}
use Rattle.tda_sets.specs.Counted.{is_fresh}
use Rattle.tda_sets.proofs.AllNested.{lent}
use Rattle.tda_sets.proofs.counted.count_fresh.Given as goal

abbrev pub invariant-loop-other : goal.invariant-loop-other
invariant-loop-other l = record {
  marks : l.marks.items ≡ map (is_fresh (lent (take l.other-index l.earlier)) l.family) (range_with_len 0 (length l.family));
  families : All (λ f. IsFamily f.now) (take l.other-index l.earlier);
}
