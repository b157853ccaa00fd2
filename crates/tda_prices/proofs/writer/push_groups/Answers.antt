use Rattle.std.proofs.Common.{◌≡◌, ◌<◌, ◌∷◌, ◌∙◌, [], ap, sym, subst, arith, length, get_or, pos}
use Rattle.std.specs.Prelude.{codes}
use Rattle.std.specs.Fmt.{decimal}
use Rattle.std.specs.List.{range_with_len}
use Rattle.std.proofs.lemmas.List.{drop_more}
use Rattle.std.proofs.lemmas.List.FromFn.{get_or-range_with_len, length-range_with_len}
use Rattle.tda_io.proofs.Appends.{on_err}
use Rattle.tda_io.proofs.PlainNames.{plain_name}
use Rattle.tda_io.specs.Texts.{IsPlain}
use Rattle.tda_model.specs.Sizes.{groups_at}
use Rattle.tda_model.specs.Spine.{code_of, level_of}
use Rattle.tda_prices.specs.Items.{OfGroup}
use Rattle.tda_prices.specs.Parts.{rows_of, group_rows}
use Rattle.tda_prices.specs.PricesText.{fit_field}
use Rattle.tda_prices.proofs.PartRows.{next_row, none_left}
use Rattle.tda_prices.proofs.Writing.{all_written, begins_on, kept, write_next}
use Rattle.tda_prices.proofs.Writing.{plain_fit}
use Rattle.tda_prices.proofs.writer.push_groups.Goals as goal

pub push_price-requires-clause-fit : goal.push_price-requires-clause-fit
push_price-requires-clause-fit c = subst IsPlain (sym c.fit_name.ensures) (plain_fit c.args.spine.now c.units.ensures.sound c.args.fit c.requires.fit)

pub push_price-requires-clause-unit : goal.push_price-requires-clause-unit
push_price-requires-clause-unit c = plain_name 16 c.code.result.now c.code.ensures.coded

pub returns-in_err-push_price-clause-err : goal.returns-in_err-push_price-clause-err
returns-in_err-push_price-clause-err c =
    on_err c.from_residual.result (begins_on c.args.out.now.items c.loop-group.out.items c.push_price.new.out.items c.loop-group.invariant.begins c.in_err-push_price.ensures.err)

pub loop-group-preserved : goal.loop-group-preserved
loop-group-preserved c =
    let s = c.args.schema.now in
    let sp = c.args.spine.now in
    let n = groups_at s (level_of sp c.args.unit) in
    let xs = range_with_len 0 n in
    let k = c.loop-group.group in
    let many : c.groups-group-end.result ≡ n = c.groups-group-end.ensures.count ∙ ap (groups_at s) c.level.ensures in
    let below : k < length xs = omega (arith, c.loop-group-test.true, many, length-range_with_len 0 n) in
    let at : k ≡ get_or xs k 0 = sym (get_or-range_with_len 0 n k 0 (omega (arith, below, length-range_with_len 0 n)) ∙ omega arith) in
    let low : k < length c.args.prices.now = omega (arith, below, c.requires.count, length-range_with_len 0 n) in
    write_next (group_rows s sp c.args.fit c.args.unit) c.args.prices.now c.args.out.now.items c.loop-group.out.items _ _ _ _ _ _ _ _
    (next_row sp c.args.fit (OfGroup c.args.unit) xs k below)
    (ap (λ x. x ∷ codes "group" ∷ c.code.result.now ∷ decimal k ∷ []) c.fit_name.ensures
    ∙ ap (λ x. fit_field sp c.args.fit ∷ codes "group" ∷ x ∷ decimal k ∷ []) c.code.ensures.code
    ∙ ap (λ m. fit_field sp c.args.fit ∷ codes "group" ∷ code_of sp c.args.unit ∷ decimal m ∷ []) at)
    (drop_more c.args.prices.now k (pos 0) low) (kept c.args.prices.now c.requires.near k low) c.loop-group.invariant c.push_price.new.out.items c.in_ok-push_price.ensures.ok

pub returns-clause-ok : goal.returns-clause-ok
returns-clause-ok c =
    let s = c.args.schema.now in
    let sp = c.args.spine.now in
    let n = groups_at s (level_of sp c.args.unit) in
    let xs = range_with_len 0 n in
    let k = c.loop-group.group in
    let many : c.groups-group-end.result ≡ n = c.groups-group-end.ensures.count ∙ ap (groups_at s) c.level.ensures in
    let none = none_left xs k (omega (arith, c.loop-group-test.false, many, length-range_with_len 0 n)) in
    all_written (group_rows s sp c.args.fit c.args.unit) c.args.prices.now c.args.out.now.items c.loop-group.out.items _ _ (ap (rows_of sp c.args.fit (OfGroup c.args.unit)) none) c.loop-group.invariant
