use Rattle.std.proofs.Common.{◌≡◌, ◌<◌, ◌∷◌, ◌∙◌, [], None, ap, sym, arith, length, get_or}
use Rattle.std.specs.Prelude.{codes}
use Rattle.std.specs.Fmt.{decimal}
use Rattle.std.specs.List.{range_with_len}
use Rattle.std.proofs.lemmas.List.FromFn.{get_or-range_with_len, length-range_with_len}
use Rattle.std.proofs.lemmas.Result.{err_from_is_err_and}
use Rattle.tda_model.specs.Groups.{kind_count}
use Rattle.tda_prices.specs.Items.{OfKind}
use Rattle.tda_prices.specs.Parts.{rows_of, kind_rows}
use Rattle.tda_prices.proofs.PartRows.{next_row, none_left}
use Rattle.tda_prices.proofs.Reading.{all_read, read_next, stop_next}
use Rattle.tda_prices.proofs.reader.read_kinds.Goals as goal

pub returns-in_err-read_price-clause-err : goal.returns-in_err-read_price-clause-err
returns-in_err-read_price-clause-err c =
    let s = c.args.schema.now in
    let sp = c.args.spine.now in
    let xs = range_with_len 0 (kind_count s) in
    let k = c.loop-kind.kind in
    let below : k < length xs = omega (arith, c.loop-kind-test.true, c.kinds-kind-end.ensures.count, length-range_with_len 0 (kind_count s)) in
    let at : k ≡ get_or xs k 0 = sym (get_or-range_with_len 0 (kind_count s) k 0 (omega (arith, below, length-range_with_len 0 (kind_count s))) ∙ omega arith) in
    let why = c.in_err-read_price.field-0.0 in
    let p = err_from_is_err_and c.from_residual.result c.from_residual.ensures.1 in
    rw (p.1, p.2)
    (stop_next (kind_rows s sp) _ _ _ _ c.args.rows.now c.loop-kind.rows c.args.prices.now.items c.loop-kind.prices.items
    (next_row sp None OfKind xs k below)
    (ap (λ n. codes "-" ∷ codes "kind" ∷ codes "-" ∷ decimal n ∷ []) (c.from.ensures ∙ at)) c.loop-kind.invariant why c.in_err-read_price.ensures.err)

pub loop-kind-preserved : goal.loop-kind-preserved
loop-kind-preserved c =
    let s = c.args.schema.now in
    let sp = c.args.spine.now in
    let xs = range_with_len 0 (kind_count s) in
    let k = c.loop-kind.kind in
    let below : k < length xs = omega (arith, c.loop-kind-test.true, c.kinds-kind-end.ensures.count, length-range_with_len 0 (kind_count s)) in
    let at : k ≡ get_or xs k 0 = sym (get_or-range_with_len 0 (kind_count s) k 0 (omega (arith, below, length-range_with_len 0 (kind_count s))) ∙ omega arith) in
    read_next (kind_rows s sp) _ _ _ _ c.args.rows.now c.loop-kind.rows c.args.prices.now.items c.loop-kind.prices.items
    (next_row sp None OfKind xs k below)
    (ap (λ n. codes "-" ∷ codes "kind" ∷ codes "-" ∷ decimal n ∷ []) (c.from.ensures ∙ at)) c.loop-kind.invariant c.read_price.new.rows c.read_price.new.prices.items c.in_ok-read_price.ensures.ok

pub returns-clause-ok : goal.returns-clause-ok
returns-clause-ok c =
    let s = c.args.schema.now in
    let sp = c.args.spine.now in
    let xs = range_with_len 0 (kind_count s) in
    let none = none_left xs c.loop-kind.kind (omega (arith, c.loop-kind-test.false, c.kinds-kind-end.ensures.count, length-range_with_len 0 (kind_count s))) in
    all_read (kind_rows s sp) c.args.rows.now c.loop-kind.rows c.args.prices.now.items c.loop-kind.prices.items _ (ap (rows_of sp None OfKind) none) c.loop-kind.invariant
