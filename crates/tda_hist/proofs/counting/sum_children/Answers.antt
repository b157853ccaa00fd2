use Rattle.std.proofs.Common.{◌∙◌, ◌<◌, ℕ, ap, arith, sum_by}
use Rattle.tda_model.specs.Spine.{children_of}
use Rattle.tda_out.specs.Counts.{count_at}
use Rattle.tda_hist.proofs.Adding.{children_places, same_children, row_more}
use Rattle.tda_hist.proofs.counting.sum_children.Goals as goal

pub sum_of-sum-requires-clause-units : goal.sum_of-sum-requires-clause-units
sum_of-sum-requires-clause-units c =
    rw c.children-children.ensures
    (λ k d l. (children_places c.args.schema.now c.args.spine.now c.args.unit c.loop-cell.tables c.loop-cell.invariant.counts c.loop-cell.cell (omega (arith, c.loop-cell-test.true, c.cells-cell-end.ensures.count)) k d l).0)

pub sum_of-sum-requires-clause-cells : goal.sum_of-sum-requires-clause-cells
sum_of-sum-requires-clause-cells c =
    rw c.children-children.ensures
    (λ k d l. (children_places c.args.schema.now c.args.spine.now c.args.unit c.loop-cell.tables c.loop-cell.invariant.counts c.loop-cell.cell (omega (arith, c.loop-cell-test.true, c.cells-cell-end.ensures.count)) k d l).1)

pub sum_of-sum-requires-clause-room : goal.sum_of-sum-requires-clause-room
sum_of-sum-requires-clause-room c =
    let old = c.args.tables.now in
    let row : ℕ → ℕ = λ j. sum_by (λ v. count_at old v j) (children_of c.args.spine.now c.args.unit) in
    let within : c.loop-cell.cell < c.cells-cell-end.result = c.loop-cell-test.true in
    let same = same_children c.args.schema.now c.args.spine.now c.requires.sound.tree c.args.unit c.requires.unit old c.loop-cell.tables c.loop-cell.cell row c.loop-cell.invariant c.loop-cell.cell in
    let le = c.requires.room c.loop-cell.cell (omega (arith, within, c.cells-cell-end.ensures.count)) in
    rw (c.children-children.ensures, same) le

pub set-requires-clause-limit : goal.set-requires-clause-limit
set-requires-clause-limit c =
    let old = c.args.tables.now in
    let row : ℕ → ℕ = λ j. sum_by (λ v. count_at old v j) (children_of c.args.spine.now c.args.unit) in
    let sum = c.sum_of-sum.ensures ∙ ap (sum_by (λ v. count_at c.loop-cell.tables v c.loop-cell.cell)) c.children-children.ensures in
    let same = same_children c.args.schema.now c.args.spine.now c.requires.sound.tree c.args.unit c.requires.unit old c.loop-cell.tables c.loop-cell.cell row c.loop-cell.invariant c.loop-cell.cell in
    let within : c.loop-cell.cell < c.cells-cell-end.result = c.loop-cell-test.true in
    let le = c.requires.room c.loop-cell.cell (omega (arith, within, c.cells-cell-end.ensures.count)) in
    omega (arith, sum, same, le)

pub loop-cell-preserved : goal.loop-cell-preserved
loop-cell-preserved c =
    let old = c.args.tables.now in
    let row : ℕ → ℕ = λ j. sum_by (λ v. count_at old v j) (children_of c.args.spine.now c.args.unit) in
    let sum = c.sum_of-sum.ensures ∙ ap (sum_by (λ v. count_at c.loop-cell.tables v c.loop-cell.cell)) c.children-children.ensures in
    let same = same_children c.args.schema.now c.args.spine.now c.requires.sound.tree c.args.unit c.requires.unit old c.loop-cell.tables c.loop-cell.cell row c.loop-cell.invariant c.loop-cell.cell in
    let within : c.loop-cell.cell < c.cells-cell-end.result = c.loop-cell-test.true in
    row_more c.args.schema.now c.args.spine.now old c.loop-cell.tables c.set.new.self c.args.unit c.requires.unit c.loop-cell.cell (omega (arith, within, c.cells-cell-end.ensures.count)) c.sum_of-sum.result row
    c.loop-cell.invariant c.in_ok-set.ensures.ok (sum ∙ same)
