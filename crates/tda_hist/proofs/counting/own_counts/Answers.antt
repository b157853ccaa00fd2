use Rattle.std.proofs.Common.{◌∙◌, arith}
use Rattle.tda_hist.proofs.TallyLemmas.{placed, tally_place, tally_room, tally_more, tally_all}
use Rattle.tda_hist.proofs.counting.own_counts.Goals as goal

pub add_one-requires-clause-unit : goal.add_one-requires-clause-unit
add_one-requires-clause-unit c =
    let is = placed c.args.schema.now c.args.spine.now c.args.records.now c.requires c.loop-i.i (omega (arith, c.loop-i-test.true, c.len-i-end.ensures)) in
    (tally_place c.args.schema.now c.args.spine.now (λ r. r.block) (λ r. r.cell) c.args.records.now c.loop-i.i (omega (arith, c.loop-i-test.true, c.len-i-end.ensures)) c.loop-i.tables c.loop-i.invariant
    c.block.result c.cell.result (rw c.block.ensures is.block.here) (rw c.cell.ensures is.in_row)).0

pub add_one-requires-clause-cell : goal.add_one-requires-clause-cell
add_one-requires-clause-cell c =
    let is = placed c.args.schema.now c.args.spine.now c.args.records.now c.requires c.loop-i.i (omega (arith, c.loop-i-test.true, c.len-i-end.ensures)) in
    (tally_place c.args.schema.now c.args.spine.now (λ r. r.block) (λ r. r.cell) c.args.records.now c.loop-i.i (omega (arith, c.loop-i-test.true, c.len-i-end.ensures)) c.loop-i.tables c.loop-i.invariant
    c.block.result c.cell.result (rw c.block.ensures is.block.here) (rw c.cell.ensures is.in_row)).1

pub add_one-requires-clause-limit : goal.add_one-requires-clause-limit
add_one-requires-clause-limit c =
    let is = placed c.args.schema.now c.args.spine.now c.args.records.now c.requires c.loop-i.i (omega (arith, c.loop-i-test.true, c.len-i-end.ensures)) in
    tally_room c.args.schema.now c.args.spine.now (λ r. r.block) (λ r. r.cell) c.args.records.now c.loop-i.i (omega (arith, c.loop-i-test.true, c.len-i-end.ensures)) c.loop-i.tables c.loop-i.invariant
    c.block.result c.cell.result (rw c.block.ensures is.block.here) (rw c.cell.ensures is.in_row) c.requires.few

pub loop-i-preserved : goal.loop-i-preserved
loop-i-preserved c =
    let is = placed c.args.schema.now c.args.spine.now c.args.records.now c.requires c.loop-i.i (omega (arith, c.loop-i-test.true, c.len-i-end.ensures)) in
    c.in_ok-add_one.ensures
    ∙ tally_more c.args.schema.now c.args.spine.now (λ r. r.block) (λ r. r.cell) c.args.records.now c.loop-i.i (omega (arith, c.loop-i-test.true, c.len-i-end.ensures)) c.loop-i.tables c.loop-i.invariant
    c.block.result c.cell.result (rw c.block.ensures is.block.here) (rw c.cell.ensures is.in_row) c.block.ensures c.cell.ensures

pub returns : goal.returns
returns c =
    tally_all c.args.schema.now c.args.spine.now (λ r. r.block) (λ r. r.cell) c.args.records.now c.loop-i.i (omega (arith, c.loop-i-test.false, c.len-i-end.ensures)) c.loop-i.tables c.loop-i.invariant
