use Rattle.std.proofs.Common.{◌==◌, ◌&&◌, not, sym, ◌∙◌, arith}
use Rattle.tda_audit.proofs.Passes.{somebody, nobody, may_be}
use Rattle.tda_model.specs.Cells.{cell_count, is_possible}
use Rattle.tda_spine.proofs.Firsts.{number_fails, number_passes, no_number}
use Rattle.tda_out.specs.Counts.{count_at}
use Rattle.tda_audit.proofs.rules.impossible_cell.Goals as goal
use Rattle.tda_audit.proofs.rules.impossible_cell.Goals.{else-not-possible-via-then-not-possible+else-get-ne0, else-not-possible-via-else-not-possible}

pub returns-then-get-ne0 : goal.returns-then-get-ne0
returns-then-get-ne0 c =
    let s = c.args.schema.now in
    number_passes (λ j. not (is_possible s j) && not (count_at c.args.tables.now c.args.unit j == 0)) (cell_count s) c.loop-cell.cell c.loop-cell.invariant (omega arith)
    (somebody (is_possible s c.loop-cell.cell) (count_at c.args.tables.now c.args.unit c.loop-cell.cell) (sym c.possible.ensures ∙ c.if-not-possible.true) (λ e. c.if-get-ne0.true (c.get.ensures.count ∙ e)))

pub loop-cell-preserved : goal.loop-cell-preserved
loop-cell-preserved c =
    let s = c.args.schema.now in
    number_fails (λ j. not (is_possible s j) && not (count_at c.args.tables.now c.args.unit j == 0)) (cell_count s) c.loop-cell.cell c.loop-cell.invariant (omega arith)
    (elim c.else-not-possible.branch [
      | else-not-possible-via-then-not-possible+else-get-ne0 w ↦ nobody (is_possible s c.loop-cell.cell) (count_at c.args.tables.now c.args.unit c.loop-cell.cell) (sym w.get.ensures.count ∙ w.if-get-ne0.false)
      | else-not-possible-via-else-not-possible w ↦ may_be (is_possible s c.loop-cell.cell) (count_at c.args.tables.now c.args.unit c.loop-cell.cell) (sym c.possible.ensures ∙ w.if-not-possible.false)
    ])

pub returns : goal.returns
returns c =
    let s = c.args.schema.now in
    no_number (λ j. not (is_possible s j) && not (count_at c.args.tables.now c.args.unit j == 0)) (cell_count s) c.loop-cell.cell c.loop-cell.invariant (omega arith)
