use Rattle.std.proofs.Common.{◌≡◌, ◌≤◌, ◌∙◌, ap, sym, length, get_or, [], arith}
use Rattle.tda_model.specs.Spine.{units_at, nation_of}
use Rattle.tda_spine.specs.Sound.{spine_of}
use Rattle.tda_spine.proofs.Walks.{levels_length, levels_get, nation_first, some_nation}
use Rattle.tda_spine.proofs.spine.Spine.nation.Goals as goal

pub get-requires : goal.get-requires
get-requires c =
    let sp = spine_of c.self.inside.depth c.self.inside.units.items in
    let deep : 2 ≤ c.self.inside.depth = c.self.invariant.sound.tree.deep in
    omega (arith, ap length c.self.invariant.levels_are, levels_length sp)

pub bounds-get-0 : goal.bounds-get-0
bounds-get-0 c =
    let sp = spine_of c.self.inside.depth c.self.inside.units.items in
    let deep : 2 ≤ c.self.inside.depth = c.self.invariant.sound.tree.deep in
    let first : c.get.result.now ≡ units_at sp 0 = c.get.ensures ∙ ap (λ xs. get_or xs 0 []) c.self.invariant.levels_are ∙ levels_get sp 0 (omega arith) in
    omega (arith, ap length first, some_nation sp (nation_of sp) c.self.invariant.sound.tree)

pub returns-clause-nation : goal.returns-clause-nation
returns-clause-nation c =
    let sp = spine_of c.self.inside.depth c.self.inside.units.items in
    let deep : 2 ≤ c.self.inside.depth = c.self.invariant.sound.tree.deep in
    let first : c.get.result.now ≡ units_at sp 0 = c.get.ensures ∙ ap (λ xs. get_or xs 0 []) c.self.invariant.levels_are ∙ levels_get sp 0 (omega arith) in
    ap (λ xs. get_or xs 0 0) first ∙ sym (nation_first sp) ∙ ap nation_of c.self.view_is
