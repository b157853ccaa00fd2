use Rattle.std.proofs.Common.{◌-◌, ◌≤◌}
use Rattle.tda_scale.proofs.warm.phases_for.Given as goal

abbrev pub invariant-loop-phases : goal.invariant-loop-phases
invariant-loop-phases l = record { some : 1 ≤ l.phases; few : l.phases ≤ 31 }

abbrev pub decreases-loop-phases : goal.decreases-loop-phases
decreases-loop-phases l = 31 - l.phases
