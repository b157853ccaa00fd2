use Rattle.std.proofs.Common.{◌<◌, ◌∷◌, ◌∙◌, [], All, None, ap, sym, subst, arith, length, get_or, pos}
use Rattle.std.specs.Prelude.{codes}
use Rattle.std.specs.Fmt.{decimal}
use Rattle.std.proofs.lemmas.List.{drop_more}
use Rattle.tda_io.proofs.Appends.{on_err}
use Rattle.tda_io.proofs.PlainNames.{plain_name}
use Rattle.tda_model.specs.Spine.{IsUnit, code_of, units_at}
use Rattle.tda_prices.specs.Items.{OfState}
use Rattle.tda_prices.specs.Parts.{state_rows}
use Rattle.tda_prices.proofs.Counts.{level_units}
use Rattle.tda_prices.proofs.PartRows.{next_row}
use Rattle.tda_prices.proofs.Writing.{begins_on, kept, write_next}
use Rattle.tda_prices.proofs.writer.push_states.Goals as goal

pub code-requires : goal.code-requires
code-requires c =
    let sp = c.args.spine.now in
    subst (All (IsUnit sp)) (sym c.at_level-state-items.ensures) (level_units sp 1) c.loop-index.index 0 (omega (arith, c.loop-index-test.true))

pub push_price-requires-clause-unit : goal.push_price-requires-clause-unit
push_price-requires-clause-unit c = plain_name 16 c.code.result.now c.code.ensures.coded

pub returns-in_err-push_price-clause-err : goal.returns-in_err-push_price-clause-err
returns-in_err-push_price-clause-err c =
    on_err c.from_residual.result (begins_on c.args.out.now.items c.loop-index.out.items c.push_price.new.out.items c.loop-index.invariant.begins c.in_err-push_price.ensures.err)

pub loop-index-preserved : goal.loop-index-preserved
loop-index-preserved c =
    let sp = c.args.spine.now in
    let xs = units_at sp 1 in
    let k = c.loop-index.index in
    let below : k < length xs = omega (arith, c.loop-index-test.true, ap length c.at_level-state-items.ensures) in
    let low : k < length c.args.prices.now = omega (arith, below, c.requires.count) in
    write_next (state_rows sp) c.args.prices.now c.args.out.now.items c.loop-index.out.items _ _ _ _ _ _ _ _
    (next_row sp None OfState xs k below)
    (ap (λ x. codes "-" ∷ codes "state" ∷ x ∷ decimal 0 ∷ []) (c.code.ensures.code ∙ ap (λ us. code_of sp (get_or us k 0)) c.at_level-state-items.ensures))
    (drop_more c.args.prices.now k (pos 0) low) (kept c.args.prices.now c.requires.near k low) c.loop-index.invariant c.push_price.new.out.items c.in_ok-push_price.ensures.ok
