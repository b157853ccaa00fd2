use Rattle.std.proofs.Common.{◌≡◌, ◌<◌, ◌≤◌, ◌∙◌, get_or, length, option_map, sym, ap, arith}
use Rattle.std.proofs.lemmas.Bool.{lt-ltb, le-ltb}
use Rattle.tda_model.specs.Bounds.{needed}
use Rattle.tda_model.specs.Spine.{units_at}
use Rattle.tda_spine.proofs.Firsts.{fails_here, passes_here, none_pass}
use Rattle.tda_invar.specs.Known.{known, is_short, short_of}
use Rattle.tda_invar.proofs.Existence.{row_needed}
use Rattle.tda_invar.proofs.StatePlaces.{states_are, total_at}
use Rattle.tda_invar.proofs.joining.first_short.Goals as goal

pub at_level-state-items-requires : goal.at_level-state-items-requires
at_level-state-items-requires c = omega (arith, c.units.ensures.sound.tree.deep)

pub row_sum-needed-requires : goal.row_sum-needed-requires
row_sum-needed-requires c =
    let below = rw c.at_level-state-items.ensures at c.loop-place-test.true in
    rw (c.at_level-state-items.ensures, c.requires.units) (states_are c.args.spine.now c.loop-place.place 0 below).here

pub returns-then-total-needed : goal.returns-then-total-needed
returns-then-total-needed c = λ s facilities lows_are.
    let sp = c.args.spine.now in
    let p = known sp facilities c.args.totals.now in
    let k = c.loop-place.place in
    let below = rw c.at_level-state-items.ensures at c.loop-place-test.true in
    let state = get_or (units_at sp 1) k 0 in
    let total : c.nth-total.result ≡ p.total state = c.nth-total.ensures.number ∙ sym (total_at sp c.args.totals.now k below) in
    let need : c.row_sum-needed.result ≡ needed s sp p state =
    (rw c.at_level-state-items.ensures at c.row_sum-needed.ensures) ∙ row_needed s sp p c.args.lows.now lows_are state (states_are sp k 0 below).here in
    let first = passes_here (is_short s sp p) (units_at sp 1) k (c.loop-place.invariant s facilities lows_are) 0 below
    (lt-ltb (p.total state) (needed s sp p state) (omega (arith, total, need, c.if-total-needed.true))) in
    rw (c.at_level-state-items.ensures, total, need) (ap (option_map (short_of s sp p)) first)

pub loop-place-preserved : goal.loop-place-preserved
loop-place-preserved c = λ s facilities lows_are.
    let sp = c.args.spine.now in
    let p = known sp facilities c.args.totals.now in
    let k = c.loop-place.place in
    let below = rw c.at_level-state-items.ensures at c.loop-place-test.true in
    let state = get_or (units_at sp 1) k 0 in
    let total : c.nth-total.result ≡ p.total state = c.nth-total.ensures.number ∙ sym (total_at sp c.args.totals.now k below) in
    let need : c.row_sum-needed.result ≡ needed s sp p state =
    (rw c.at_level-state-items.ensures at c.row_sum-needed.ensures) ∙ row_needed s sp p c.args.lows.now lows_are state (states_are sp k 0 below).here in
    fails_here (is_short s sp p) (units_at sp 1) k (c.loop-place.invariant s facilities lows_are) 0 below
    (le-ltb (p.total state) (needed s sp p state) (omega (arith, total, need, c.if-total-needed.false)))

pub returns : goal.returns
returns c = λ s facilities lows_are.
    let sp = c.args.spine.now in
    let p = known sp facilities c.args.totals.now in
    let all = rw c.at_level-state-items.ensures at c.loop-place-test.false in
    ap (option_map (short_of s sp p)) (none_pass (is_short s sp p) (units_at sp 1) c.loop-place.place (c.loop-place.invariant s facilities lows_are) all)
