use Rattle.std.proofs.Common.{◌<◌, ◌∙◌, ap, length, get_or, [], arith}
use Rattle.tda_spine.specs.Sound.{spine_of}
use Rattle.tda_spine.proofs.Walks.{children_length, children_get}
use Rattle.tda_spine.proofs.spine.Spine.children.Goals as goal

pub get-requires : goal.get-requires
get-requires c =
    let sp = spine_of c.self.inside.depth c.self.inside.units.items in
    let here : c.args.unit < length c.self.inside.units.items = rw (← c.self.view_is) at c.requires in
    omega (arith, ap length c.self.invariant.children_are, children_length sp)

pub returns : goal.returns
returns c =
    let sp = spine_of c.self.inside.depth c.self.inside.units.items in
    let here : c.args.unit < length c.self.inside.units.items = rw (← c.self.view_is) at c.requires in
    rw (← c.self.view_is) (c.get.ensures ∙ ap (λ xs. get_or xs c.args.unit []) c.self.invariant.children_are ∙ children_get sp c.args.unit here)
