use Rattle.std.proofs.Common.{◌≡◌, ◌++◌, ◌∷◌, ◌-◌, take}
use Rattle.std.specs.List.{flat_map}
use Rattle.tda_model.specs.Spine.{Spine, preorder_from}
use Rattle.tda_spine.specs.Sound.{children_lists}
use Rattle.tda_spine.proofs.tree.+walk.Given as goal

abbrev pub decreases-walk : goal.decreases-walk
decreases-walk l = l.steps

abbrev pub invariant-loop-child : goal.invariant-loop-child
invariant-loop-child l =
    (sp : Spine) → l.children ≡ children_lists sp
    → l.order.items ≡ l.fn.order.items ++ l.unit ∷ flat_map (preorder_from sp (l.steps - 1)) (take l.child-index l.under)
