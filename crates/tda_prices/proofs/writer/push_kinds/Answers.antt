use Rattle.std.proofs.Common.{◌≡◌, ◌<◌, ◌∷◌, ◌∙◌, [], None, ap, sym, arith, length, get_or, pos}
use Rattle.std.specs.Prelude.{codes}
use Rattle.std.specs.Fmt.{decimal}
use Rattle.std.specs.List.{range_with_len}
use Rattle.std.proofs.lemmas.List.{drop_more}
use Rattle.std.proofs.lemmas.List.FromFn.{get_or-range_with_len, length-range_with_len}
use Rattle.tda_model.specs.Groups.{kind_count}
use Rattle.tda_prices.specs.Items.{OfKind}
use Rattle.tda_prices.specs.Parts.{rows_of, kind_rows}
use Rattle.tda_prices.proofs.PartRows.{next_row, none_left}
use Rattle.tda_prices.proofs.Writing.{all_written, kept, write_next}
use Rattle.tda_prices.proofs.writer.push_kinds.Goals as goal

pub loop-kind-preserved : goal.loop-kind-preserved
loop-kind-preserved c =
    let s = c.args.schema.now in
    let sp = c.args.spine.now in
    let xs = range_with_len 0 (kind_count s) in
    let k = c.loop-kind.kind in
    let below : k < length xs = omega (arith, c.loop-kind-test.true, c.kinds-kind-end.ensures.count, length-range_with_len 0 (kind_count s)) in
    let at : k ≡ get_or xs k 0 = sym (get_or-range_with_len 0 (kind_count s) k 0 (omega (arith, below, length-range_with_len 0 (kind_count s))) ∙ omega arith) in
    let low : k < length c.args.prices.now = omega (arith, below, c.requires.count, length-range_with_len 0 (kind_count s)) in
    write_next (kind_rows s sp) c.args.prices.now c.args.out.now.items c.loop-kind.out.items _ _ _ _ _ _ _ _
    (next_row sp None OfKind xs k below)
    (ap (λ n. codes "-" ∷ codes "kind" ∷ codes "-" ∷ decimal n ∷ []) (c.from.ensures ∙ at))
    (drop_more c.args.prices.now k (pos 0) low) (kept c.args.prices.now c.requires.near k low) c.loop-kind.invariant c.push_price.new.out.items c.in_ok-push_price.ensures.ok

pub returns-clause-ok : goal.returns-clause-ok
returns-clause-ok c =
    let s = c.args.schema.now in
    let sp = c.args.spine.now in
    let none = none_left (range_with_len 0 (kind_count s)) c.loop-kind.kind (omega (arith, c.loop-kind-test.false, c.kinds-kind-end.ensures.count, length-range_with_len 0 (kind_count s))) in
    all_written (kind_rows s sp) c.args.prices.now c.args.out.now.items c.loop-kind.out.items _ _ (ap (rows_of sp None OfKind) none) c.loop-kind.invariant
