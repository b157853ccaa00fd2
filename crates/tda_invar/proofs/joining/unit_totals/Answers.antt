use Rattle.std.proofs.Common.{◌≡◌, ◌<◌, ◌≤◌, get_or, set, length, Some, ap, arith}
use Rattle.tda_model.specs.Spine.{units_at}
use Rattle.tda_invar.proofs.StatePlaces.{states_are}
use Rattle.tda_invar.proofs.StateTotals.{entered_more, entered_all}
use Rattle.tda_invar.proofs.joining.unit_totals.Goals as goal

pub at_level-state-items-requires : goal.at_level-state-items-requires
at_level-state-items-requires c = omega (arith, c.units.ensures.sound.tree.deep)

pub index_mut-requires : goal.index_mut-requires
index_mut-requires c =
    let below = rw c.at_level-state-items.ensures at c.loop-place-test.true in
    let within = (states_are c.args.spine.now c.loop-place.place 0 below).here in
    rw c.at_level-state-items.ensures (omega (arith, within, c.loop-place.invariant.size, c.loop-place.all.ok))

pub loop-place-preserved : goal.loop-place-preserved
loop-place-preserved c =
    let below = rw c.at_level-state-items.ensures at c.loop-place-test.true in
    rw c.at_level-state-items.ensures
    (entered_more c.args.spine.now c.args.totals.now c.loop-place.place c.nth.result c.loop-place.all.items below c.loop-place.invariant c.nth.ensures.number)

pub returns : goal.returns
returns c = λ facilities.
    let all = rw c.at_level-state-items.ensures at c.loop-place-test.false in
    entered_all c.args.spine.now c.args.totals.now facilities c.loop-place.place c.loop-place.all.items all c.loop-place.invariant
