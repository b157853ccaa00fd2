use Rattle.std.proofs.Common.{[], Some, sym}
use Rattle.std.proofs.lemmas.List.{append-nil}
use Rattle.std.proofs.lemmas.Result.{err_from_is_err_and, on_ok_weaker}
use Rattle.tda_prices.specs.Parts.{cell_rows, child_rows}
use Rattle.tda_prices.specs.PricesText.{fit_places}
use Rattle.tda_prices.proofs.PartRows.{split_rows}
use Rattle.tda_prices.proofs.Reading.{err_weaker, read_part, reads_none, stop_part}
use Rattle.tda_prices.proofs.reader.read_split.Goals as goal

pub returns-in_err-read_cells-clause-err : goal.returns-in_err-read_cells-clause-err
returns-in_err-read_cells-clause-err c =
    let s = c.args.schema.now in
    let sp = c.args.spine.now in
    let whole = fit_places s sp (Some c.args.parent) in
    let split = split_rows s sp c.args.parent in
    let why = c.in_err-read_cells.field-0.0 in
    let p = err_from_is_err_and c.from_residual.result c.from_residual.ensures.1 in
    rw (p.1, p.2)
    (stop_part whole (whole) (cell_rows s sp c.args.parent) (child_rows s sp c.args.parent) c.args.rows.now c.args.rows.now c.args.prices.now.items c.args.prices.now.items split (reads_none whole c.args.rows.now c.args.prices.now.items c.requires.some) why c.in_err-read_cells.ensures.err)

pub returns-clause-ok : goal.returns-clause-ok
returns-clause-ok c =
    let s = c.args.schema.now in
    let sp = c.args.spine.now in
    let whole = fit_places s sp (Some c.args.parent) in
    let split = split_rows s sp c.args.parent in
    let step0 = read_part whole (whole) (cell_rows s sp c.args.parent) (child_rows s sp c.args.parent) c.args.rows.now c.args.rows.now c.args.prices.now.items c.args.prices.now.items split (reads_none whole c.args.rows.now c.args.prices.now.items c.requires.some) c.read_cells.new.rows c.read_cells.new.prices.items c.in_ok-read_cells.ensures.ok in
    on_ok_weaker c.read_children.result
    (λ last. read_part whole (child_rows s sp c.args.parent) (child_rows s sp c.args.parent) [] c.args.rows.now c.read_cells.new.rows c.args.prices.now.items c.read_cells.new.prices.items (sym (append-nil (child_rows s sp c.args.parent))) step0 c.read_children.new.rows c.read_children.new.prices.items last)
    c.read_children.ensures.ok

pub returns-clause-err : goal.returns-clause-err
returns-clause-err c =
    let s = c.args.schema.now in
    let sp = c.args.spine.now in
    let whole = fit_places s sp (Some c.args.parent) in
    let split = split_rows s sp c.args.parent in
    let step0 = read_part whole (whole) (cell_rows s sp c.args.parent) (child_rows s sp c.args.parent) c.args.rows.now c.args.rows.now c.args.prices.now.items c.args.prices.now.items split (reads_none whole c.args.rows.now c.args.prices.now.items c.requires.some) c.read_cells.new.rows c.read_cells.new.prices.items c.in_ok-read_cells.ensures.ok in
    err_weaker c.read_children.result
    (λ why stops. stop_part whole (child_rows s sp c.args.parent) (child_rows s sp c.args.parent) [] c.args.rows.now c.read_cells.new.rows c.args.prices.now.items c.read_cells.new.prices.items (sym (append-nil (child_rows s sp c.args.parent))) step0 why stops)
    c.read_children.ensures.err
