use Rattle.std.proofs.Common.{◌≡◌, ◌<◌, ◌∷◌, ◌∙◌, [], ap, sym, arith, length, get_or}
use Rattle.std.specs.Prelude.{codes}
use Rattle.std.specs.Fmt.{decimal}
use Rattle.std.specs.List.{range_with_len}
use Rattle.std.proofs.lemmas.List.FromFn.{get_or-range_with_len, length-range_with_len}
use Rattle.std.proofs.lemmas.Result.{err_from_is_err_and}
use Rattle.tda_model.specs.Sizes.{groups_at}
use Rattle.tda_model.specs.Spine.{code_of, level_of}
use Rattle.tda_prices.specs.Items.{OfGroup}
use Rattle.tda_prices.specs.Parts.{rows_of, group_rows}
use Rattle.tda_prices.specs.PricesText.{fit_field}
use Rattle.tda_prices.proofs.PartRows.{next_row, none_left}
use Rattle.tda_prices.proofs.Reading.{all_read, read_next, reads_none, stop_next}
use Rattle.tda_prices.proofs.reader.read_groups.Goals as goal

pub loop-group-init : goal.loop-group-init
loop-group-init c = reads_none (group_rows c.args.schema.now c.args.spine.now c.args.fit c.args.unit) c.args.rows.now c.args.prices.now.items c.requires.some

pub returns-in_err-read_price-clause-err : goal.returns-in_err-read_price-clause-err
returns-in_err-read_price-clause-err c =
    let s = c.args.schema.now in
    let sp = c.args.spine.now in
    let n = groups_at s (level_of sp c.args.unit) in
    let xs = range_with_len 0 n in
    let k = c.loop-group.group in
    let many : c.groups-group-end.result ≡ n = c.groups-group-end.ensures.count ∙ ap (groups_at s) c.level.ensures in
    let below : k < length xs = omega (arith, c.loop-group-test.true, many, length-range_with_len 0 n) in
    let at : k ≡ get_or xs k 0 = sym (get_or-range_with_len 0 n k 0 (omega (arith, below, length-range_with_len 0 n)) ∙ omega arith) in
    let why = c.in_err-read_price.field-0.0 in
    let p = err_from_is_err_and c.from_residual.result c.from_residual.ensures.1 in
    rw (p.1, p.2)
    (stop_next (group_rows s sp c.args.fit c.args.unit) _ _ _ _ c.args.rows.now c.loop-group.rows c.args.prices.now.items c.loop-group.prices.items
    (next_row sp c.args.fit (OfGroup c.args.unit) xs k below)
    (ap (λ x. x ∷ codes "group" ∷ c.code.result.now ∷ decimal k ∷ []) c.fit_name.ensures
    ∙ ap (λ x. fit_field sp c.args.fit ∷ codes "group" ∷ x ∷ decimal k ∷ []) c.code.ensures.code
    ∙ ap (λ m. fit_field sp c.args.fit ∷ codes "group" ∷ code_of sp c.args.unit ∷ decimal m ∷ []) at) c.loop-group.invariant why c.in_err-read_price.ensures.err)

pub loop-group-preserved : goal.loop-group-preserved
loop-group-preserved c =
    let s = c.args.schema.now in
    let sp = c.args.spine.now in
    let n = groups_at s (level_of sp c.args.unit) in
    let xs = range_with_len 0 n in
    let k = c.loop-group.group in
    let many : c.groups-group-end.result ≡ n = c.groups-group-end.ensures.count ∙ ap (groups_at s) c.level.ensures in
    let below : k < length xs = omega (arith, c.loop-group-test.true, many, length-range_with_len 0 n) in
    let at : k ≡ get_or xs k 0 = sym (get_or-range_with_len 0 n k 0 (omega (arith, below, length-range_with_len 0 n)) ∙ omega arith) in
    read_next (group_rows s sp c.args.fit c.args.unit) _ _ _ _ c.args.rows.now c.loop-group.rows c.args.prices.now.items c.loop-group.prices.items
    (next_row sp c.args.fit (OfGroup c.args.unit) xs k below)
    (ap (λ x. x ∷ codes "group" ∷ c.code.result.now ∷ decimal k ∷ []) c.fit_name.ensures
    ∙ ap (λ x. fit_field sp c.args.fit ∷ codes "group" ∷ x ∷ decimal k ∷ []) c.code.ensures.code
    ∙ ap (λ m. fit_field sp c.args.fit ∷ codes "group" ∷ code_of sp c.args.unit ∷ decimal m ∷ []) at) c.loop-group.invariant c.read_price.new.rows c.read_price.new.prices.items c.in_ok-read_price.ensures.ok

pub returns-clause-ok : goal.returns-clause-ok
returns-clause-ok c =
    let s = c.args.schema.now in
    let sp = c.args.spine.now in
    let n = groups_at s (level_of sp c.args.unit) in
    let xs = range_with_len 0 n in
    let many : c.groups-group-end.result ≡ n = c.groups-group-end.ensures.count ∙ ap (groups_at s) c.level.ensures in
    let none = none_left xs c.loop-group.group (omega (arith, c.loop-group-test.false, many, length-range_with_len 0 n)) in
    all_read (group_rows s sp c.args.fit c.args.unit) c.args.rows.now c.loop-group.rows c.args.prices.now.items c.loop-group.prices.items _ (ap (rows_of sp c.args.fit (OfGroup c.args.unit)) none) c.loop-group.invariant
