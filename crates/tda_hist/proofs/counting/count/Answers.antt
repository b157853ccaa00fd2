use Rattle.std.proofs.Common.{◌≡◌, subst, arith}
use Rattle.tda_out.proofs.RowLemmas.{counts_are}
use Rattle.tda_hist.specs.TrueTable.{true_count}
use Rattle.tda_hist.proofs.Adding.{AreAdded, parent_here, children_sum, added_more, added_all}
use Rattle.tda_hist.proofs.TrueCounts.{true_split}
use Rattle.tda_hist.proofs.Counted.{counted_start, counted_limit, counted_blocks, counted_persons, counted_in_nation, counted_at_level, counted_in_states}
use Rattle.tda_hist.proofs.counting.count.Goals as goal

pub loop-place-init : goal.loop-place-init
loop-place-init c =
    rw c.parents-parents.ensures.value
    (counted_start c.args.schema.now c.args.spine.now c.units.ensures.sound.tree c.args.records.now c.requires c.in_ok-tables.tables c.in_ok-tables.ensures)

pub sum_children-requires-clause-tables : goal.sum_children-requires-clause-tables
sum_children-requires-clause-tables c = c.loop-place.invariant.counted

pub sum_children-requires-clause-unit : goal.sum_children-requires-clause-unit
sum_children-requires-clause-unit c =
    let t = c.units.ensures.sound.tree in
    let within = rw c.parents-parents.ensures.value at c.loop-place.auto.place in
    rw c.parents-parents.ensures.value
    (parent_here c.args.schema.now c.args.spine.now (true_count c.args.spine.now c.args.records.now) t (true_split c.args.spine.now t c.args.records.now)
    c.loop-place.place c.loop-place-test.true within c.loop-place.tables c.loop-place.invariant)

pub sum_children-requires-clause-room : goal.sum_children-requires-clause-room
sum_children-requires-clause-room c = λ j l.
    let t = c.units.ensures.sound.tree in
    let within = rw c.parents-parents.ensures.value at c.loop-place.auto.place in
    let is = children_sum c.args.schema.now c.args.spine.now (true_count c.args.spine.now c.args.records.now) t (true_split c.args.spine.now t c.args.records.now)
    c.loop-place.place c.loop-place-test.true within c.loop-place.tables c.loop-place.invariant j l in
    rw c.parents-parents.ensures.value (rw is (counted_limit c.args.spine.now c.args.records.now c.requires.few _ j))

pub loop-place-preserved : goal.loop-place-preserved
loop-place-preserved c =
    let t = c.units.ensures.sound.tree in
    let within = rw c.parents-parents.ensures.value at c.loop-place.auto.place in
    let row = rw c.parents-parents.ensures.value at c.in_ok-sum_children.ensures in
    added_more c.args.schema.now c.args.spine.now (true_count c.args.spine.now c.args.records.now) t (true_split c.args.spine.now t c.args.records.now)
    c.loop-place.place c.loop-place-test.true within c.loop-place.tables c.loop-place.invariant c.sum_children.new.tables row

all_counted : goal.returns-clause-counts
all_counted c =
    let t = c.units.ensures.sound.tree in
    let done : c.loop-place.place ≡ 0 = omega (arith, c.loop-place-test.false) in
    added_all c.args.schema.now c.args.spine.now (true_count c.args.spine.now c.args.records.now) t (true_split c.args.spine.now t c.args.records.now) c.loop-place.tables
    (subst (λ n. AreAdded c.args.schema.now c.args.spine.now (true_count c.args.spine.now c.args.records.now) n c.loop-place.tables) done c.loop-place.invariant)

pub returns-clause-counts : goal.returns-clause-counts
returns-clause-counts c = all_counted c

pub returns-clause-blocks : goal.returns-clause-blocks
returns-clause-blocks c = counted_blocks c.args.schema.now c.args.spine.now c.units.ensures.sound.tree c.args.records.now c.requires c.loop-place.tables (all_counted c)

pub returns-clause-tables : goal.returns-clause-tables
returns-clause-tables c = rw (all_counted c) (counts_are c.args.schema.now c.args.spine.now (true_count c.args.spine.now c.args.records.now))

pub returns-clause-persons : goal.returns-clause-persons
returns-clause-persons c = counted_persons c.args.schema.now c.args.spine.now c.units.ensures.sound.tree c.args.records.now c.requires c.loop-place.tables (all_counted c)

pub returns-clause-nation : goal.returns-clause-nation
returns-clause-nation c = counted_in_nation c.args.schema.now c.args.spine.now c.units.ensures.sound.tree c.args.records.now c.requires c.loop-place.tables (all_counted c)

pub returns-clause-levels : goal.returns-clause-levels
returns-clause-levels c = counted_at_level c.args.schema.now c.args.spine.now c.units.ensures.sound.tree c.args.records.now c.requires c.loop-place.tables (all_counted c)

pub returns-clause-states : goal.returns-clause-states
returns-clause-states c = counted_in_states c.args.schema.now c.args.spine.now c.units.ensures.sound.tree c.args.records.now c.requires c.loop-place.tables (all_counted c)
