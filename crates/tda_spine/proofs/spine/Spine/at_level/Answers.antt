use Rattle.std.proofs.Common.{◌<◌, ◌∙◌, ap, length, get_or, [], arith}
use Rattle.tda_spine.specs.Sound.{spine_of}
use Rattle.tda_spine.proofs.Walks.{levels_length, levels_get}
use Rattle.tda_spine.proofs.spine.Spine.at_level.Goals as goal

pub get-requires : goal.get-requires
get-requires c =
    let sp = spine_of c.self.inside.depth c.self.inside.units.items in
    let low : c.args.level < c.self.inside.depth = rw (← c.self.view_is) at c.requires in
    omega (arith, ap length c.self.invariant.levels_are, levels_length sp)

pub returns : goal.returns
returns c =
    let sp = spine_of c.self.inside.depth c.self.inside.units.items in
    let low : c.args.level < c.self.inside.depth = rw (← c.self.view_is) at c.requires in
    rw (← c.self.view_is) (c.get.ensures ∙ ap (λ xs. get_or xs c.args.level []) c.self.invariant.levels_are ∙ levels_get sp c.args.level low)
