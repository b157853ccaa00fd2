use Rattle.tda_model.specs.Spine.{is_at}
use Rattle.tda_spine.specs.Sound.{spine_of}
use Rattle.tda_spine.proofs.Grouped.{Grouped}
use Rattle.tda_spine.proofs.tree.levels.Given as goal

abbrev pub invariant-loop-number : goal.invariant-loop-number
invariant-loop-number l = Grouped (is_at (spine_of l.depth l.units)) l.depth l.number l.lists
