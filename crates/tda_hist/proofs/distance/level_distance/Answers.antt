use Rattle.std.proofs.Common.{arith}
use Rattle.std.proofs.lemmas.List.Sums.{sum_by_more, sum_by_more_le, get_or-le-sum_by}
use Rattle.tda_model.specs.Groups.{classes_of}
use Rattle.tda_model.specs.Spine.{units_at}
use Rattle.tda_schema.specs.Stated.{query_at}
use Rattle.tda_invar.proofs.UnitLemmas.{units_within}
use Rattle.tda_hist.specs.Distance.{unit_gap}
use Rattle.tda_hist.proofs.ClassCells.{over_whole}
use Rattle.tda_hist.proofs.Distances.{class_places}
use Rattle.tda_hist.proofs.distance.level_distance.Goals as goal

pub unit_distance-sum-requires-clause-first_unit : goal.unit_distance-sum-requires-clause-first_unit
unit_distance-sum-requires-clause-first_unit c =
    let s = c.args.schema.now in
    let whole = over_whole s c.args.level c.args.query c.queries.ensures.over_all c.requires.query in
    let below = rw c.at_level-unit-items.ensures at c.loop-unit-test.true in
    rw c.at_level-unit-items.ensures
    (class_places s c.args.spine.now (query_at s c.args.level c.args.query) whole c.args.first.now c.requires.first _ (units_within c.args.spine.now c.args.level c.loop-unit.unit-index 0 below)).0

pub unit_distance-sum-requires-clause-second_unit : goal.unit_distance-sum-requires-clause-second_unit
unit_distance-sum-requires-clause-second_unit c =
    let s = c.args.schema.now in
    let whole = over_whole s c.args.level c.args.query c.queries.ensures.over_all c.requires.query in
    let below = rw c.at_level-unit-items.ensures at c.loop-unit-test.true in
    rw c.at_level-unit-items.ensures
    (class_places s c.args.spine.now (query_at s c.args.level c.args.query) whole c.args.second.now c.requires.second _ (units_within c.args.spine.now c.args.level c.loop-unit.unit-index 0 below)).0

pub unit_distance-sum-requires-clause-first_cells : goal.unit_distance-sum-requires-clause-first_cells
unit_distance-sum-requires-clause-first_cells c =
    let s = c.args.schema.now in
    let whole = over_whole s c.args.level c.args.query c.queries.ensures.over_all c.requires.query in
    let below = rw c.at_level-unit-items.ensures at c.loop-unit-test.true in
    rw (c.at_level-unit-items.ensures, c.classes-classes.ensures.value)
    (class_places s c.args.spine.now (query_at s c.args.level c.args.query) whole c.args.first.now c.requires.first _ (units_within c.args.spine.now c.args.level c.loop-unit.unit-index 0 below)).1

pub unit_distance-sum-requires-clause-second_cells : goal.unit_distance-sum-requires-clause-second_cells
unit_distance-sum-requires-clause-second_cells c =
    let s = c.args.schema.now in
    let whole = over_whole s c.args.level c.args.query c.queries.ensures.over_all c.requires.query in
    let below = rw c.at_level-unit-items.ensures at c.loop-unit-test.true in
    rw (c.at_level-unit-items.ensures, c.classes-classes.ensures.value)
    (class_places s c.args.spine.now (query_at s c.args.level c.args.query) whole c.args.second.now c.requires.second _ (units_within c.args.spine.now c.args.level c.loop-unit.unit-index 0 below)).1

pub unit_distance-sum-requires-clause-room : goal.unit_distance-sum-requires-clause-room
unit_distance-sum-requires-clause-room c =
    let s = c.args.schema.now in
    let gap = unit_gap c.args.first.now c.args.second.now (classes_of s (query_at s c.args.level c.args.query)) in
    let units = units_at c.args.spine.now c.args.level in
    let below = rw c.at_level-unit-items.ensures at c.loop-unit-test.true in
    let le = get_or-le-sum_by gap units c.loop-unit.unit-index 0 below in
    rw (c.at_level-unit-items.ensures, c.classes-classes.ensures.value) (omega (arith, le, c.requires.room))

pub overflow_add-sum : goal.overflow_add-sum
overflow_add-sum c =
    let s = c.args.schema.now in
    let gap = unit_gap c.args.first.now c.args.second.now (classes_of s (query_at s c.args.level c.args.query)) in
    let units = units_at c.args.spine.now c.args.level in
    let below = rw c.at_level-unit-items.ensures at c.loop-unit-test.true in
    let one = rw (c.at_level-unit-items.ensures, c.classes-classes.ensures.value) at c.unit_distance-sum.ensures in
    let le = sum_by_more_le gap units c.loop-unit.unit-index 0 below in
    omega (arith, le, one, c.loop-unit.invariant, c.requires.room)

pub loop-unit-preserved : goal.loop-unit-preserved
loop-unit-preserved c =
    let s = c.args.schema.now in
    let gap = unit_gap c.args.first.now c.args.second.now (classes_of s (query_at s c.args.level c.args.query)) in
    let units = units_at c.args.spine.now c.args.level in
    let below = rw c.at_level-unit-items.ensures at c.loop-unit-test.true in
    let one = rw (c.at_level-unit-items.ensures, c.classes-classes.ensures.value) at c.unit_distance-sum.ensures in
    let more = sum_by_more gap units c.loop-unit.unit-index 0 below in
    omega (arith, more, one, c.loop-unit.invariant)
