use Rattle.std.proofs.Common.{◌≡◌, ◌+◌, drop, length, replicate}
use Rattle.std.specs.List.{flat_map}
use Rattle.tda_model.specs.Spine.{children_of}
use Rattle.tda_model.specs.TablesText.{units_in_order}
use Rattle.tda_prices.specs.Ranks.{ranked}
use Rattle.tda_prices.proofs.ranks.ranks.Given as goal

abbrev pub invariant-loop-parent : goal.invariant-loop-parent
invariant-loop-parent l = record {
  whole : ranked (replicate (length l.spine.units) 0) (units_in_order l.spine) 0 ≡ ranked l.ranks.items (flat_map (children_of l.spine) (drop l.parent-index l.parent-items)) l.next;
  room : l.next + length (flat_map (children_of l.spine) (drop l.parent-index l.parent-items)) ≡ length (units_in_order l.spine);
  size : length l.ranks.items ≡ length l.spine.units;
}
