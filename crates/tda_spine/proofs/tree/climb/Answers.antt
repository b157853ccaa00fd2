use Rattle.std.proofs.Common.{◌≡◌, ◌<◌, ◌+◌, ◌∙◌, ℕ, Option, ap, sym, subst, length, arith}
use Rattle.tda_model.specs.Spine.{parent_of, level_of, nation_of}
use Rattle.tda_spine.specs.Sound.{spine_of}
use Rattle.tda_spine.proofs.Climbs.{Climbs, met, met_next, climb_start, climb_step}
use Rattle.tda_spine.proofs.Lookups.{parent_at}
use Rattle.tda_spine.proofs.tree.climb.Goals as goal

pub loop-over-init : goal.loop-over-init
loop-over-init c = λ depth t. climb_start (spine_of depth c.args.units.now) (nation_of (spine_of depth c.args.units.now)) t c.args.block c.requires.block c.args.lists.now

pub push-requires : goal.push-requires
push-requires c =
    let climbs = c.loop-over.invariant c.requires.tree.0 c.requires.tree.1 in
    let here : c.in-Some.unit < length c.args.units.now = (climbs.next c.in-Some.unit c.in-Some.is).0 in
    omega (arith, climbs.whole)

pub bounds-units-unit : goal.bounds-units-unit
bounds-units-unit c = ((c.loop-over.invariant c.requires.tree.0 c.requires.tree.1).next c.in-Some.unit c.in-Some.is).0

pub loop-over-smaller : goal.loop-over-smaller
loop-over-smaller c =
    let sp = spine_of c.requires.tree.0 c.args.units.now in
    let u = c.in-Some.unit in
    let here : u < length c.args.units.now = ((c.loop-over.invariant c.requires.tree.0 c.requires.tree.1).next u c.in-Some.is).0 in
    let named : parent_of sp u ≡ c.row.inside.parent =
    parent_at sp u c.index-units-unit.result c.index-units-unit.is here ∙ sym (ap (λ x. x.parent) c.row.view_is) in
    let below : met sp c.row.inside.parent ≡ level_of sp u = met_next sp (nation_of sp) c.requires.tree.1 c.args.block c.requires.block u here c.row.inside.parent named in
    let above : met sp c.loop-over.over ≡ level_of sp u + 1 = ap (met sp) c.in-Some.is in
    omega arith

pub loop-over-preserved : goal.loop-over-preserved
loop-over-preserved c = λ depth t.
    let sp = spine_of depth c.args.units.now in
    let u = c.in-Some.unit in
    let P : Option ℕ → Type 0 = Climbs sp c.args.block c.args.lists.now c.loop-over.lists in
    let climbs = subst P c.in-Some.is (c.loop-over.invariant depth t) in
    let here : u < length c.args.units.now = ((c.loop-over.invariant depth t).next u c.in-Some.is).0 in
    let named : parent_of sp u ≡ c.row.inside.parent =
    parent_at sp u c.index-units-unit.result c.index-units-unit.is here ∙ sym (ap (λ x. x.parent) c.row.view_is) in
    climb_step sp (nation_of sp) t c.args.block c.requires.block c.args.lists.now c.loop-over.lists c.push.new.self u c.row.inside.parent c.requires.lists climbs named c.in_ok-push.ensures
