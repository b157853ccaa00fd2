use Rattle.std.proofs.Common.{◌≡◌, [], subst, arith}
use Rattle.tda_invar.proofs.Raising.{AreRaised, raised_start, raised_room, raised_here, raised_more, raised_all}
use Rattle.tda_invar.proofs.lows.lows_of.Goals as goal

pub loop-place-init : goal.loop-place-init
loop-place-init c = λ totals.
    rw c.parents-parents.ensures.value
    (raised_start c.args.spine.now c.args.facilities.now totals c.units.ensures.sound c.requires.units c.in_ok-lows.lows c.in_ok-lows.ensures)

pub sum_children-requires-clause-units : goal.sum_children-requires-clause-units
sum_children-requires-clause-units c = (c.loop-place.invariant []).units

pub sum_children-requires-clause-unit : goal.sum_children-requires-clause-unit
sum_children-requires-clause-unit c =
    let within = rw c.parents-parents.ensures.value at c.loop-place.auto.place in
    rw c.parents-parents.ensures.value
    (raised_here c.args.spine.now c.args.facilities.now [] c.units.ensures.sound c.loop-place.place c.loop-place-test.true within c.loop-place.lows (c.loop-place.invariant []))

pub sum_children-requires-clause-room : goal.sum_children-requires-clause-room
sum_children-requires-clause-room c = λ kind l.
    let within = rw c.parents-parents.ensures.value at c.loop-place.auto.place in
    rw c.parents-parents.ensures.value
    (raised_room c.args.spine.now c.args.facilities.now [] c.units.ensures.sound c.loop-place.place c.loop-place-test.true within c.loop-place.lows (c.loop-place.invariant []) c.requires.limit kind l)

pub loop-place-preserved : goal.loop-place-preserved
loop-place-preserved c = λ totals.
    let within = rw c.parents-parents.ensures.value at c.loop-place.auto.place in
    let row = rw c.parents-parents.ensures.value at c.sum_children.ensures in
    raised_more c.args.spine.now c.args.facilities.now totals c.units.ensures.sound c.loop-place.place c.loop-place-test.true within c.loop-place.lows (c.loop-place.invariant totals)
    c.sum_children.new.numbers row

pub returns : goal.returns
returns c = λ totals.
    let done : c.loop-place.place ≡ 0 = omega (arith, c.loop-place-test.false) in
    raised_all c.args.spine.now c.args.facilities.now totals c.units.ensures.sound c.loop-place.lows
    (subst (λ n. AreRaised c.args.spine.now c.args.facilities.now totals n c.loop-place.lows) done (c.loop-place.invariant totals))
