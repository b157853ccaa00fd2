use Rattle.std.proofs.Common.{sym, ap, []}
use Rattle.tda_io.specs.Due.{none_of}
use Rattle.tda_invar.proofs.Existence.{joined, always, lows_are, lows_small}
use Rattle.tda_invar.proofs.Raising.{most_holds}
use Rattle.tda_invar.proofs.joining.join.Goals as goal

pub first_short-requires-clause-units : goal.first_short-requires-clause-units
first_short-requires-clause-units c = ap (λ t. t.units) (c.in_ok-lows.ensures [])

pub returns-in-Some-clause-short : goal.returns-in-Some-clause-short
returns-in-Some-clause-short c = λ other.
    let lows = lows_are c.args.schema.now c.args.spine.now c.args.facilities c.table.result.now c.args.totals c.requires.table c.table.ensures.table
    c.in_ok-lows.lows (c.in_ok-lows.ensures c.args.totals) in
    ap none_of (sym (c.in-Some.ensures c.args.schema.now c.args.facilities lows))

pub new-requires : goal.new-requires
new-requires c =
    let lows = lows_are c.args.schema.now c.args.spine.now c.args.facilities c.table.result.now c.args.totals c.requires.table c.table.ensures.table
    c.in_ok-lows.lows (c.in_ok-lows.ensures c.args.totals) in
    let none = sym (c.in_default.ensures c.args.schema.now c.args.facilities lows) in
    lows_small c.args.schema.now c.args.spine.now c.args.facilities c.args.totals c.requires.totals none c.units.ensures.sound.tree c.in_ok-lows.lows lows

pub returns-clause-short : goal.returns-clause-short
returns-clause-short c =
    let lows = lows_are c.args.schema.now c.args.spine.now c.args.facilities c.table.result.now c.args.totals c.requires.table c.table.ensures.table
    c.in_ok-lows.lows (c.in_ok-lows.ensures c.args.totals) in
    ap none_of (sym (c.in_default.ensures c.args.schema.now c.args.facilities lows))

pub returns-clause-joined : goal.returns-clause-joined
returns-clause-joined c =
    let lows = lows_are c.args.schema.now c.args.spine.now c.args.facilities c.table.result.now c.args.totals c.requires.table c.table.ensures.table
    c.in_ok-lows.lows (c.in_ok-lows.ensures c.args.totals) in
    let none = sym (c.in_default.ensures c.args.schema.now c.args.facilities lows) in
    let most = most_holds c.args.spine.now c.args.facilities c.args.totals c.table.ensures.limit in
    rw c.new.ensures
    (joined c.args.schema.now c.args.spine.now c.args.facilities c.in_ok-lows.lows c.args.totals c.in_ok-unit_totals.unit_totals.items
    c.requires.table c.requires.totals c.units.ensures.sound c.kinds.ensures.each_has_a_cell most lows (c.in_ok-unit_totals.ensures c.args.facilities) none)

pub returns-clause-exists : goal.returns-clause-exists
returns-clause-exists c =
    let lows = lows_are c.args.schema.now c.args.spine.now c.args.facilities c.table.result.now c.args.totals c.requires.table c.table.ensures.table
    c.in_ok-lows.lows (c.in_ok-lows.ensures c.args.totals) in
    let none = sym (c.in_default.ensures c.args.schema.now c.args.facilities lows) in
    let most = most_holds c.args.spine.now c.args.facilities c.args.totals c.table.ensures.limit in
    always c.args.schema.now c.args.spine.now c.new.result
    (rw c.new.ensures
    (joined c.args.schema.now c.args.spine.now c.args.facilities c.in_ok-lows.lows c.args.totals c.in_ok-unit_totals.unit_totals.items
    c.requires.table c.requires.totals c.units.ensures.sound c.kinds.ensures.each_has_a_cell most lows (c.in_ok-unit_totals.ensures c.args.facilities) none))
