use Rattle.std.proofs.Common.{ℕ, List, get_or, refl}
use Rattle.tda_model.specs.TablesText.{count_row}
use Rattle.tda_io.proofs.Appends.{kept_start, on_err}
use Rattle.tda_out.proofs.WrittenRows.{one_more}
use Rattle.tda_out.proofs.tables_writer.push_unit.Goals as goal

pub returns-in_err-push_count-clause-err : goal.returns-in_err-push_count-clause-err
returns-in_err-push_count-clause-err c =
    on_err c.from_residual.result
    (kept_start c.args.out.now.items c.loop-cell.out.items c.push_count.new.out.items _ c.loop-cell.invariant c.in_err-push_count.ensures.err)

pub loop-cell-preserved : goal.loop-cell-preserved
loop-cell-preserved c =
    let f : ℕ → List ℕ = λ j. count_row c.args.code.now j (get_or c.args.counts.now j 0) in
    one_more f c.loop-cell.cell c.args.out.now.items c.loop-cell.out.items c.push_count.new.out.items (f c.loop-cell.cell) c.loop-cell.invariant c.in_ok-push_count.ensures.ok refl
