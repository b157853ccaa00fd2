-- The largest of the fits so far.
use Rattle.std.proofs.Common.{List, ◌∷◌, map, take, Option, Some, None, ℕ}
use Rattle.tda_model.specs.Spine.{parents_of}
use Rattle.tda_model.specs.Sizes.{fit_size}
use Rattle.tda_spine.specs.Largest.{IsLargest}
use Rattle.tda_spine.proofs.spine.Spine.largest_fit.Given as goal

abbrev pub invariant-loop-parent : goal.invariant-loop-parent
invariant-loop-parent l =
    IsLargest (λ fit. (fit_size l.schema l.self fit).nodes) (None ∷ map Some (take l.parent-index (parents_of l.self))) l.largest.nodes
    × IsLargest (λ fit. (fit_size l.schema l.self fit).arcs) (None ∷ map Some (take l.parent-index (parents_of l.self))) l.largest.arcs
