use Rattle.std.proofs.Common.{◌∙◌, ◌-◌, ◌<◌, length, arith}
use Rattle.tda_model.proofs.Tree.{up}
use Rattle.tda_schema.specs.Stated.{query_at, class_of}
use Rattle.tda_hist.proofs.TallyLemmas.{tally_place, tally_room, tally_more, tally_all}
use Rattle.tda_hist.proofs.ClassCells.{over_whole}
use Rattle.tda_hist.proofs.Distances.{found, class_counts_are}
use Rattle.tda_hist.proofs.distance.class_counts.Goals as goal

pub add_one-requires-clause-unit : goal.add_one-requires-clause-unit
add_one-requires-clause-unit c =
    let s = c.args.schema.now in
    let sp = c.args.spine.now in
    let q = query_at s c.args.level c.args.query in
    let below : c.loop-i.i < length c.args.records.now = omega (arith, c.loop-i-test.true, c.len-i-end.ensures) in
    let is = found s sp c.units.ensures.sound.tree q (over_whole s c.args.level c.args.query c.queries.ensures.over_all c.requires.query) c.args.level (omega (arith, c.requires.belong, c.requires.level))
    c.args.records.now c.requires.records c.loop-i.i below c.block.result c.cell.result c.unit_over-unit.result c.class_of-class.result c.block.ensures c.cell.ensures
    c.unit_over-unit.ensures.level c.unit_over-unit.ensures.over c.class_of-class.ensures in
    (tally_place s sp (λ r. up sp r.block (sp.depth - 1 - c.args.level)) (λ r. class_of s q r.cell) c.args.records.now c.loop-i.i below c.loop-i.tables c.loop-i.invariant
    c.unit_over-unit.result c.class_of-class.result c.unit_over-unit.ensures.unit is.below).0

pub add_one-requires-clause-cell : goal.add_one-requires-clause-cell
add_one-requires-clause-cell c =
    let s = c.args.schema.now in
    let sp = c.args.spine.now in
    let q = query_at s c.args.level c.args.query in
    let below : c.loop-i.i < length c.args.records.now = omega (arith, c.loop-i-test.true, c.len-i-end.ensures) in
    let is = found s sp c.units.ensures.sound.tree q (over_whole s c.args.level c.args.query c.queries.ensures.over_all c.requires.query) c.args.level (omega (arith, c.requires.belong, c.requires.level))
    c.args.records.now c.requires.records c.loop-i.i below c.block.result c.cell.result c.unit_over-unit.result c.class_of-class.result c.block.ensures c.cell.ensures
    c.unit_over-unit.ensures.level c.unit_over-unit.ensures.over c.class_of-class.ensures in
    (tally_place s sp (λ r. up sp r.block (sp.depth - 1 - c.args.level)) (λ r. class_of s q r.cell) c.args.records.now c.loop-i.i below c.loop-i.tables c.loop-i.invariant
    c.unit_over-unit.result c.class_of-class.result c.unit_over-unit.ensures.unit is.below).1

pub add_one-requires-clause-limit : goal.add_one-requires-clause-limit
add_one-requires-clause-limit c =
    let s = c.args.schema.now in
    let sp = c.args.spine.now in
    let q = query_at s c.args.level c.args.query in
    let below : c.loop-i.i < length c.args.records.now = omega (arith, c.loop-i-test.true, c.len-i-end.ensures) in
    let is = found s sp c.units.ensures.sound.tree q (over_whole s c.args.level c.args.query c.queries.ensures.over_all c.requires.query) c.args.level (omega (arith, c.requires.belong, c.requires.level))
    c.args.records.now c.requires.records c.loop-i.i below c.block.result c.cell.result c.unit_over-unit.result c.class_of-class.result c.block.ensures c.cell.ensures
    c.unit_over-unit.ensures.level c.unit_over-unit.ensures.over c.class_of-class.ensures in
    tally_room s sp (λ r. up sp r.block (sp.depth - 1 - c.args.level)) (λ r. class_of s q r.cell) c.args.records.now c.loop-i.i below c.loop-i.tables c.loop-i.invariant
    c.unit_over-unit.result c.class_of-class.result c.unit_over-unit.ensures.unit is.below c.requires.records.few

pub loop-i-preserved : goal.loop-i-preserved
loop-i-preserved c =
    let s = c.args.schema.now in
    let sp = c.args.spine.now in
    let q = query_at s c.args.level c.args.query in
    let below : c.loop-i.i < length c.args.records.now = omega (arith, c.loop-i-test.true, c.len-i-end.ensures) in
    let is = found s sp c.units.ensures.sound.tree q (over_whole s c.args.level c.args.query c.queries.ensures.over_all c.requires.query) c.args.level (omega (arith, c.requires.belong, c.requires.level))
    c.args.records.now c.requires.records c.loop-i.i below c.block.result c.cell.result c.unit_over-unit.result c.class_of-class.result c.block.ensures c.cell.ensures
    c.unit_over-unit.ensures.level c.unit_over-unit.ensures.over c.class_of-class.ensures in
    c.in_ok-add_one.ensures
    ∙ tally_more s sp (λ r. up sp r.block (sp.depth - 1 - c.args.level)) (λ r. class_of s q r.cell) c.args.records.now c.loop-i.i below c.loop-i.tables c.loop-i.invariant
    c.unit_over-unit.result c.class_of-class.result c.unit_over-unit.ensures.unit is.below is.unit is.class

pub returns : goal.returns
returns c =
    let s = c.args.schema.now in
    let sp = c.args.spine.now in
    let q = query_at s c.args.level c.args.query in
    class_counts_are s sp c.units.ensures.sound.tree q (over_whole s c.args.level c.args.query c.queries.ensures.over_all c.requires.query) c.args.level (omega (arith, c.requires.belong, c.requires.level))
    c.args.records.now c.requires.records c.loop-i.tables
    (tally_all s sp (λ r. up sp r.block (sp.depth - 1 - c.args.level)) (λ r. class_of s q r.cell) c.args.records.now c.loop-i.i (omega (arith, c.loop-i-test.false, c.len-i-end.ensures)) c.loop-i.tables c.loop-i.invariant)
