use Rattle.std.proofs.Common.{length}
use Rattle.tda_spine.specs.Sound.{spine_of}
use Rattle.tda_spine.proofs.Climbs.{is_block_of}
use Rattle.tda_spine.proofs.Grouped.{Grouped}
use Rattle.tda_spine.proofs.tree.blocks.Given as goal

abbrev pub invariant-loop-number : goal.invariant-loop-number
invariant-loop-number l = Grouped (is_block_of (spine_of l.depth l.units)) (length l.units) l.number l.lists
