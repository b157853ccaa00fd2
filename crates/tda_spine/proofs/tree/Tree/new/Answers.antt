use Rattle.std.proofs.Common.{◌≡◌, ◌<◌, ◌∙◌, ap, sym, length, get_or, arith, ◌++◌, []}
use Rattle.std.proofs.lemmas.List.FromFn.{length-map-range_with_len}
use Rattle.tda_model.specs.Spine.{units_at, nation_of, preorder_from}
use Rattle.tda_spine.specs.Sound.{spine_of}
use Rattle.tda_spine.proofs.Walks.{children_length, levels_get, nation_first, some_nation}
use Rattle.tda_spine.proofs.tree.Tree.new.Goals as goal

pub get-requires : goal.get-requires
get-requires c =
    let sp = spine_of c.args.depth c.args.units.now in
    omega (arith, ap length c.in_ok-levels.ensures, length-map-range_with_len (units_at sp) 0 sp.depth)

pub bounds-get-0 : goal.bounds-get-0
bounds-get-0 c =
    let sp = spine_of c.args.depth c.args.units.now in
    let first : c.get.result.now ≡ units_at sp 0 = c.get.ensures ∙ ap (λ xs. get_or xs 0 []) c.in_ok-levels.ensures ∙ levels_get sp 0 (omega arith) in
    let some = some_nation sp (nation_of sp) c.requires.tree in
    omega (arith, ap length first)

pub walk-requires-clause-unit : goal.walk-requires-clause-unit
walk-requires-clause-unit c =
    let sp = spine_of c.args.depth c.args.units.now in
    let first : c.get.result.now ≡ units_at sp 0 = c.get.ensures ∙ ap (λ xs. get_or xs 0 []) c.in_ok-levels.ensures ∙ levels_get sp 0 (omega arith) in
    let nation : get_or c.get.result.now 0 0 ≡ nation_of sp = ap (λ xs. get_or xs 0 0) first ∙ sym (nation_first sp) in
    let here : nation_of sp < length sp.units = c.requires.tree.root in
    omega (arith, ap length c.in_ok-children.ensures, children_length sp)

pub returns-clause-parents : goal.returns-clause-parents
returns-clause-parents c =
    let sp = spine_of c.args.depth c.args.units.now in
    let first : c.get.result.now ≡ units_at sp 0 = c.get.ensures ∙ ap (λ xs. get_or xs 0 []) c.in_ok-levels.ensures ∙ levels_get sp 0 (omega arith) in
    let nation : get_or c.get.result.now 0 0 ≡ nation_of sp = ap (λ xs. get_or xs 0 0) first ∙ sym (nation_first sp) in
    c.in_ok-walk.ensures sp c.in_ok-children.ensures ∙ ap (λ xs. xs ++ preorder_from sp c.args.depth (get_or c.get.result.now 0 0)) c.new-parents.ensures.items
    ∙ ap (preorder_from sp c.args.depth) nation
