use Rattle.std.proofs.Common.{◌≡◌, ◌<◌, ◌∷◌, ◌∙◌, [], Some, ap, sym, subst, arith, length, get_or, drop, filter, pos}
use Rattle.std.specs.Prelude.{codes}
use Rattle.std.specs.Fmt.{decimal}
use Rattle.std.proofs.lemmas.List.{drop_more}
use Rattle.std.proofs.lemmas.List.FromFn.{get_or-range_with_len, length-range_with_len}
use Rattle.tda_io.proofs.Appends.{on_err}
use Rattle.tda_io.proofs.PlainNames.{plain_name}
use Rattle.tda_model.specs.Cells.{all_cells, cell_count, is_possible}
use Rattle.tda_model.specs.Spine.{code_of}
use Rattle.tda_prices.specs.Items.{OfCell}
use Rattle.tda_prices.specs.Parts.{rows_of, cell_rows}
use Rattle.tda_prices.proofs.PartRows.{filter_on, filter_past, none_left}
use Rattle.tda_prices.proofs.Writing.{all_written, begins_on, kept, write_next}
use Rattle.tda_prices.proofs.Writing.{Writes}
use Rattle.tda_prices.proofs.writer.push_cells.Goals as goal
use Rattle.tda_prices.proofs.writer.push_cells.Goals.{then-possible+in_ok-push_price, else-possible}

pub bounds-prices-index : goal.bounds-prices-index
bounds-prices-index c =
    let s = c.args.schema.now in
    let sp = c.args.spine.now in
    let xs = all_cells s in
    let k = c.loop-cell.cell in
    let below : k < length xs = omega (arith, c.loop-cell-test.true, c.cells-cell-end.ensures.count, length-range_with_len 0 (cell_count s)) in
    let at : get_or xs k 0 ≡ k = get_or-range_with_len 0 (cell_count s) k 0 (omega (arith, below, length-range_with_len 0 (cell_count s))) ∙ omega arith in
    let on = ap length (filter_on xs k (is_possible s) 0 below (ap (is_possible s) at ∙ sym c.possible.ensures ∙ c.if-possible.true)) in
    omega (arith, on, c.loop-cell.invariant.left)

pub push_price-requires-clause-fit : goal.push_price-requires-clause-fit
push_price-requires-clause-fit c = plain_name 16 c.code.result.now c.code.ensures.coded

pub returns-in_err-push_price-clause-err : goal.returns-in_err-push_price-clause-err
returns-in_err-push_price-clause-err c =
    on_err c.from_residual.result (begins_on c.args.out.now.items c.loop-cell.out.items c.push_price.new.out.items c.loop-cell.invariant.writes.begins c.in_err-push_price.ensures.err)

pub loop-cell-preserved : goal.loop-cell-preserved
loop-cell-preserved c =
    let s = c.args.schema.now in
    let sp = c.args.spine.now in
    let xs = all_cells s in
    let k = c.loop-cell.cell in
    let below : k < length xs = omega (arith, c.loop-cell-test.true, c.cells-cell-end.ensures.count, length-range_with_len 0 (cell_count s)) in
    let at : get_or xs k 0 ≡ k = get_or-range_with_len 0 (cell_count s) k 0 (omega (arith, below, length-range_with_len 0 (cell_count s))) ∙ omega arith in
    elim c.if-possible.branch [
      | then-possible+in_ok-push_price w ↦
          let on = filter_on xs k (is_possible s) 0 below (ap (is_possible s) at ∙ sym c.possible.ensures ∙ w.if-possible.true) in
          let low : c.loop-cell.index < length c.args.prices.now = omega (arith, ap length on, c.loop-cell.invariant.left) in
          rw (w.out-is, w.index-is) (record {
            writes = write_next (cell_rows s sp c.args.parent) c.args.prices.now c.args.out.now.items c.loop-cell.out.items _ _ _ _ _ _ _ _
                (ap (rows_of sp (Some c.args.parent) OfCell) on)
                (ap (λ x. x ∷ codes "cell" ∷ codes "-" ∷ decimal k ∷ []) w.code.ensures.code ∙ ap (λ m. code_of sp c.args.parent ∷ codes "cell" ∷ codes "-" ∷ decimal m ∷ []) (sym at))
                (drop_more c.args.prices.now c.loop-cell.index (pos 0) low) (kept c.args.prices.now c.requires.near c.loop-cell.index low) c.loop-cell.invariant.writes w.push_price.new.out.items w.in_ok-push_price.ensures.ok;
            left = omega (arith, ap length on, c.loop-cell.invariant.left);
          })
      | else-possible w ↦
          let past = filter_past xs k (is_possible s) 0 below (ap (is_possible s) at ∙ sym c.possible.ensures ∙ w.if-possible.false) in
          rw (w.out-is, w.index-is) (record {
            writes = subst (λ l. Writes (cell_rows s sp c.args.parent) c.args.prices.now l (drop c.loop-cell.index c.args.prices.now) c.args.out.now.items c.loop-cell.out.items) (ap (rows_of sp (Some c.args.parent) OfCell) past) c.loop-cell.invariant.writes;
            left = omega (arith, ap length past, c.loop-cell.invariant.left);
          })
    ]

pub returns-clause-ok : goal.returns-clause-ok
returns-clause-ok c =
    let s = c.args.schema.now in
    let sp = c.args.spine.now in
    let none = none_left (all_cells s) c.loop-cell.cell (omega (arith, c.loop-cell-test.false, c.cells-cell-end.ensures.count, length-range_with_len 0 (cell_count s))) in
    all_written (cell_rows s sp c.args.parent) c.args.prices.now c.args.out.now.items c.loop-cell.out.items _ _ (ap (λ cs. rows_of sp (Some c.args.parent) OfCell (filter (is_possible s) cs)) none) c.loop-cell.invariant.writes
