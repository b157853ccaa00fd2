use Rattle.std.proofs.Common.{◌==◌, length, not, sum_by, sym, ◌∙◌, arith}
use Rattle.tda_model.specs.Cells.{cell_count}
use Rattle.tda_model.specs.Spine.{children_of, is_child}
use Rattle.tda_spine.proofs.Firsts.{number_fails, number_passes, no_number}
use Rattle.tda_spine.proofs.Numbers.{length-kept-le}
use Rattle.tda_out.specs.Counts.{count_at}
use Rattle.tda_audit.proofs.Passes.{differ, alike}
use Rattle.tda_audit.proofs.Rows.{children_here}
use Rattle.tda_audit.proofs.rules.unsummed_cell.Goals as goal

pub count_in-requires-clause-units : goal.count_in-requires-clause-units
count_in-requires-clause-units c = rw c.children-children.ensures (children_here c.args.schema.now c.args.spine.now c.args.tables.now c.requires.counts c.args.unit)

pub count_in-requires-clause-few : goal.count_in-requires-clause-few
count_in-requires-clause-few c =
    let few = length-kept-le (is_child c.args.spine.now c.args.unit) (length c.args.spine.now.units) in
    rw c.children-children.ensures (omega (arith, few, c.units.ensures.sound.few))

pub returns-then-get-count_in : goal.returns-then-get-count_in
returns-then-get-count_in c =
    let x = count_at c.args.tables.now in
    number_passes (λ j. not (x c.args.unit j == sum_by (λ v. x v j) (children_of c.args.spine.now c.args.unit))) (cell_count c.args.schema.now) c.loop-cell.cell c.loop-cell.invariant (omega arith)
    (differ (x c.args.unit c.loop-cell.cell) (sum_by (λ v. x v c.loop-cell.cell) (children_of c.args.spine.now c.args.unit))
    (λ e. c.if-get-count_in.true (c.get.ensures.count ∙ e ∙ sym (rw c.children-children.ensures at c.count_in.ensures))))

pub loop-cell-preserved : goal.loop-cell-preserved
loop-cell-preserved c =
    let x = count_at c.args.tables.now in
    number_fails (λ j. not (x c.args.unit j == sum_by (λ v. x v j) (children_of c.args.spine.now c.args.unit))) (cell_count c.args.schema.now) c.loop-cell.cell c.loop-cell.invariant (omega arith)
    (alike (x c.args.unit c.loop-cell.cell) (sum_by (λ v. x v c.loop-cell.cell) (children_of c.args.spine.now c.args.unit))
    (sym c.get.ensures.count ∙ c.if-get-count_in.false ∙ (rw c.children-children.ensures at c.count_in.ensures)))

pub returns : goal.returns
returns c =
    let x = count_at c.args.tables.now in
    no_number (λ j. not (x c.args.unit j == sum_by (λ v. x v j) (children_of c.args.spine.now c.args.unit))) (cell_count c.args.schema.now) c.loop-cell.cell c.loop-cell.invariant (omega arith)
