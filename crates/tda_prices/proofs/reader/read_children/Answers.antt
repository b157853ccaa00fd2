use Rattle.std.proofs.Common.{◌+◌, All, Some, ap, sym, subst, arith, get_or, drop}
use Rattle.std.specs.List.{flat_map}
use Rattle.std.proofs.lemmas.List.{drop_more}
use Rattle.std.proofs.lemmas.Result.{err_from_is_err_and}
use Rattle.tda_model.specs.Spine.{IsUnit}
use Rattle.tda_prices.specs.Left.{Reads}
use Rattle.tda_prices.specs.Parts.{group_rows, child_rows}
use Rattle.tda_prices.proofs.Counts.{children_units}
use Rattle.tda_prices.proofs.Reading.{read_part, reads_none, stop_part}
use Rattle.tda_prices.proofs.reader.read_children.Goals as goal

pub read_groups-requires-clause-unit : goal.read_groups-requires-clause-unit
read_groups-requires-clause-unit c =
    let sp = c.args.spine.now in
    subst (All (IsUnit sp)) (sym c.children-child-items.ensures) (children_units sp c.units.ensures.sound.tree c.args.parent) c.loop-child.child-index 0 (omega (arith, c.loop-child-test.true))

pub returns-in_err-read_groups-clause-err : goal.returns-in_err-read_groups-clause-err
returns-in_err-read_groups-clause-err c =
    let s = c.args.schema.now in
    let sp = c.args.spine.now in
    let xs = c.children-child-items.result.now in
    let k = c.loop-child.child-index in
    let f = group_rows s sp (Some c.args.parent) in
    let why = c.in_err-read_groups.field-0.0 in
    let p = err_from_is_err_and c.from_residual.result c.from_residual.ensures.1 in
    rw (p.1, p.2)
    (stop_part (child_rows s sp c.args.parent) _ (f (get_or xs k 0)) (flat_map f (drop (k + 1) xs)) c.args.rows.now c.loop-child.rows c.args.prices.now.items c.loop-child.prices.items
    (ap (flat_map f) (drop_more xs k 0 (omega (arith, c.loop-child-test.true)))) c.loop-child.invariant why c.in_err-read_groups.ensures.err)

pub loop-child-preserved : goal.loop-child-preserved
loop-child-preserved c =
    let s = c.args.schema.now in
    let sp = c.args.spine.now in
    let xs = c.children-child-items.result.now in
    let k = c.loop-child.child-index in
    let f = group_rows s sp (Some c.args.parent) in
    read_part (child_rows s sp c.args.parent) _ (f (get_or xs k 0)) (flat_map f (drop (k + 1) xs)) c.args.rows.now c.loop-child.rows c.args.prices.now.items c.loop-child.prices.items
    (ap (flat_map f) (drop_more xs k 0 (omega (arith, c.loop-child-test.true)))) c.loop-child.invariant c.read_groups.new.rows c.read_groups.new.prices.items c.in_ok-read_groups.ensures.ok

pub loop-child-init : goal.loop-child-init
loop-child-init c =
    let f = group_rows c.args.schema.now c.args.spine.now (Some c.args.parent) in
    subst (λ us. Reads (child_rows c.args.schema.now c.args.spine.now c.args.parent) (flat_map f us) c.args.rows.now c.args.rows.now c.args.prices.now.items c.args.prices.now.items) (sym c.children-child-items.ensures)
    (reads_none (child_rows c.args.schema.now c.args.spine.now c.args.parent) c.args.rows.now c.args.prices.now.items c.requires.some)
