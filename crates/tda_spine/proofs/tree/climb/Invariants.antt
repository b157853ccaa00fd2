use Rattle.std.proofs.Common.{ℕ}
use Rattle.tda_model.specs.Spine.{IsTree, nation_of}
use Rattle.tda_spine.specs.Sound.{spine_of}
use Rattle.tda_spine.proofs.Climbs.{Climbs, met}
use Rattle.tda_spine.proofs.tree.climb.Given as goal

abbrev pub invariant-loop-over : goal.invariant-loop-over
invariant-loop-over l =
    (depth : ℕ) → IsTree (spine_of depth l.units) (nation_of (spine_of depth l.units))
    → Climbs (spine_of depth l.units) l.block l.initial.lists l.lists l.over

abbrev pub decreases-loop-over : goal.decreases-loop-over
decreases-loop-over l = met (spine_of 0 l.units) l.over
