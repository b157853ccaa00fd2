use Rattle.std.proofs.Common.{◌<◌, ◌∷◌, [], All, None, ap, sym, subst, arith, length}
use Rattle.std.specs.Prelude.{codes}
use Rattle.std.specs.Fmt.{decimal}
use Rattle.std.proofs.lemmas.Result.{err_from_is_err_and}
use Rattle.tda_model.specs.Spine.{IsUnit}
use Rattle.tda_prices.specs.Items.{OfState}
use Rattle.tda_prices.specs.Left.{Reads}
use Rattle.tda_prices.specs.Parts.{rows_of, state_rows}
use Rattle.tda_prices.proofs.Counts.{level_units}
use Rattle.tda_prices.proofs.PartRows.{next_row}
use Rattle.tda_prices.proofs.Reading.{read_next, reads_none, stop_next}
use Rattle.tda_prices.proofs.reader.read_states.Goals as goal

pub loop-state-init : goal.loop-state-init
loop-state-init c =
    let sp = c.args.spine.now in
    subst (λ us. Reads (state_rows sp) (rows_of sp None OfState us) c.args.rows.now c.args.rows.now c.args.prices.now.items c.args.prices.now.items) (sym c.at_level-state-items.ensures)
    (reads_none (state_rows sp) c.args.rows.now c.args.prices.now.items c.requires.some)

pub code-requires : goal.code-requires
code-requires c =
    let sp = c.args.spine.now in
    subst (All (IsUnit sp)) (sym c.at_level-state-items.ensures) (level_units sp 1) c.loop-state.state-index 0 (omega (arith, c.loop-state-test.true))

pub returns-in_err-read_price-clause-err : goal.returns-in_err-read_price-clause-err
returns-in_err-read_price-clause-err c =
    let sp = c.args.spine.now in
    let xs = c.at_level-state-items.result.now in
    let k = c.loop-state.state-index in
    let below : k < length xs = omega (arith, c.loop-state-test.true) in
    let why = c.in_err-read_price.field-0.0 in
    let p = err_from_is_err_and c.from_residual.result c.from_residual.ensures.1 in
    rw (p.1, p.2)
    (stop_next (state_rows sp) _ _ _ _ c.args.rows.now c.loop-state.rows c.args.prices.now.items c.loop-state.prices.items
    (next_row sp None OfState xs k below)
    (ap (λ x. codes "-" ∷ codes "state" ∷ x ∷ decimal 0 ∷ []) c.code.ensures.code) c.loop-state.invariant why c.in_err-read_price.ensures.err)

pub loop-state-preserved : goal.loop-state-preserved
loop-state-preserved c =
    let sp = c.args.spine.now in
    let xs = c.at_level-state-items.result.now in
    let k = c.loop-state.state-index in
    let below : k < length xs = omega (arith, c.loop-state-test.true) in
    read_next (state_rows sp) _ _ _ _ c.args.rows.now c.loop-state.rows c.args.prices.now.items c.loop-state.prices.items
    (next_row sp None OfState xs k below)
    (ap (λ x. codes "-" ∷ codes "state" ∷ x ∷ decimal 0 ∷ []) c.code.ensures.code) c.loop-state.invariant c.read_price.new.rows c.read_price.new.prices.items c.in_ok-read_price.ensures.ok
