use Rattle.std.proofs.Common.{◌≡◌, ◌<◌, ◌∷◌, ◌∙◌, [], Some, ap, sym, subst, arith, length, get_or, filter}
use Rattle.std.specs.Prelude.{codes}
use Rattle.std.specs.Fmt.{decimal}
use Rattle.std.proofs.lemmas.List.FromFn.{get_or-range_with_len, length-range_with_len}
use Rattle.std.proofs.lemmas.Result.{err_from_is_err_and}
use Rattle.tda_model.specs.Cells.{all_cells, cell_count, is_possible}
use Rattle.tda_model.specs.Spine.{code_of}
use Rattle.tda_prices.specs.Items.{OfCell}
use Rattle.tda_prices.specs.Left.{Reads}
use Rattle.tda_prices.specs.Parts.{rows_of, cell_rows}
use Rattle.tda_prices.proofs.PartRows.{filter_on, filter_past, none_left}
use Rattle.tda_prices.proofs.Reading.{all_read, read_next, stop_next}
use Rattle.tda_prices.proofs.reader.read_cells.Goals as goal
use Rattle.tda_prices.proofs.reader.read_cells.Goals.{then-possible+in_ok-read_price, else-possible}

pub returns-in_err-read_price-clause-err : goal.returns-in_err-read_price-clause-err
returns-in_err-read_price-clause-err c =
    let s = c.args.schema.now in
    let sp = c.args.spine.now in
    let xs = all_cells s in
    let k = c.loop-cell.cell in
    let below : k < length xs = omega (arith, c.loop-cell-test.true, c.cells-cell-end.ensures.count, length-range_with_len 0 (cell_count s)) in
    let at : get_or xs k 0 ≡ k = get_or-range_with_len 0 (cell_count s) k 0 (omega (arith, below, length-range_with_len 0 (cell_count s))) ∙ omega arith in
    let why = c.in_err-read_price.field-0.0 in
    let p = err_from_is_err_and c.from_residual.result c.from_residual.ensures.1 in
    rw (p.1, p.2)
    (stop_next (cell_rows s sp c.args.parent) _ _ _ _ c.args.rows.now c.loop-cell.rows c.args.prices.now.items c.loop-cell.prices.items
    (ap (rows_of sp (Some c.args.parent) OfCell) (filter_on xs k (is_possible s) 0 below (ap (is_possible s) at ∙ sym c.possible.ensures ∙ c.if-possible.true)))
    (ap (λ x. x ∷ codes "cell" ∷ codes "-" ∷ decimal k ∷ []) c.code.ensures.code
    ∙ ap (λ m. code_of sp c.args.parent ∷ codes "cell" ∷ codes "-" ∷ decimal m ∷ []) (sym at)) c.loop-cell.invariant why c.in_err-read_price.ensures.err)

pub loop-cell-preserved : goal.loop-cell-preserved
loop-cell-preserved c =
    let s = c.args.schema.now in
    let sp = c.args.spine.now in
    let xs = all_cells s in
    let k = c.loop-cell.cell in
    let below : k < length xs = omega (arith, c.loop-cell-test.true, c.cells-cell-end.ensures.count, length-range_with_len 0 (cell_count s)) in
    let at : get_or xs k 0 ≡ k = get_or-range_with_len 0 (cell_count s) k 0 (omega (arith, below, length-range_with_len 0 (cell_count s))) ∙ omega arith in
    elim c.if-possible.branch [
      | then-possible+in_ok-read_price w ↦ rw (w.rows-is, w.prices-is)
          (read_next (cell_rows s sp c.args.parent) _ _ _ _ c.args.rows.now c.loop-cell.rows c.args.prices.now.items c.loop-cell.prices.items
          (ap (rows_of sp (Some c.args.parent) OfCell) (filter_on xs k (is_possible s) 0 below (ap (is_possible s) at ∙ sym c.possible.ensures ∙ w.if-possible.true)))
          (ap (λ x. x ∷ codes "cell" ∷ codes "-" ∷ decimal k ∷ []) w.code.ensures.code
          ∙ ap (λ m. code_of sp c.args.parent ∷ codes "cell" ∷ codes "-" ∷ decimal m ∷ []) (sym at)) c.loop-cell.invariant w.read_price.new.rows w.read_price.new.prices.items w.in_ok-read_price.ensures.ok)
      | else-possible w ↦ rw (w.rows-is, w.prices-is)
          (subst (λ l. Reads (cell_rows s sp c.args.parent) l c.args.rows.now c.loop-cell.rows c.args.prices.now.items c.loop-cell.prices.items)
          (ap (rows_of sp (Some c.args.parent) OfCell) (filter_past xs k (is_possible s) 0 below (ap (is_possible s) at ∙ sym c.possible.ensures ∙ w.if-possible.false))) c.loop-cell.invariant)
    ]

pub returns-clause-ok : goal.returns-clause-ok
returns-clause-ok c =
    let s = c.args.schema.now in
    let sp = c.args.spine.now in
    let none = none_left (all_cells s) c.loop-cell.cell (omega (arith, c.loop-cell-test.false, c.cells-cell-end.ensures.count, length-range_with_len 0 (cell_count s))) in
    all_read (cell_rows s sp c.args.parent) c.args.rows.now c.loop-cell.rows c.args.prices.now.items c.loop-cell.prices.items _
    (ap (λ cs. rows_of sp (Some c.args.parent) OfCell (filter (is_possible s) cs)) none) c.loop-cell.invariant
