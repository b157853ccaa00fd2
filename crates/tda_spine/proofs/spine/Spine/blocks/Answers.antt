use Rattle.std.proofs.Common.{◌<◌, ◌∙◌, ap, length, get_or, [], arith}
use Rattle.tda_model.specs.Spine.{blocks_of}
use Rattle.tda_spine.specs.Sound.{spine_of}
use Rattle.tda_spine.proofs.Walks.{blocks_length, blocks_get}
use Rattle.tda_spine.proofs.spine.Spine.blocks.Goals as goal

pub get-requires : goal.get-requires
get-requires c =
    let sp = spine_of c.self.inside.depth c.self.inside.units.items in
    let here : c.args.unit < length c.self.inside.units.items = rw (← c.self.view_is) at c.requires in
    omega (arith, ap length c.self.invariant.blocks_are, blocks_length sp)

pub returns : goal.returns
returns c =
    let sp = spine_of c.self.inside.depth c.self.inside.units.items in
    let here : c.args.unit < length c.self.inside.units.items = rw (← c.self.view_is) at c.requires in
    c.get.ensures ∙ ap (λ xs. get_or xs c.args.unit []) c.self.invariant.blocks_are ∙ blocks_get sp c.args.unit here ∙ ap (λ v. blocks_of v c.args.unit) c.self.view_is
