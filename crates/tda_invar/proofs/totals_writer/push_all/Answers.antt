use Rattle.std.proofs.Common.{◌≡◌, ℕ, List, ◌≤◌, ◌∙◌, ◌∷◌, ◌++◌, [], get_or, take, length, sym, ap, arith, append_assoc}
use Rattle.std.proofs.Math.Seq.{take-length}
use Rattle.std.specs.Fmt.{decimal}
use Rattle.std.specs.List.{flat_map}
use Rattle.tda_model.specs.Spine.{code_of, units_at}
use Rattle.tda_model.specs.TablesText.{row_text}
use Rattle.tda_invar.specs.Totals.{header, total_row}
use Rattle.tda_invar.proofs.Appends.{kept_start, on_err, one_more}
use Rattle.tda_invar.proofs.StatePlaces.{states_are, total_at}
use Rattle.tda_invar.proofs.totals_writer.push_all.Goals as goal

pub code-requires : goal.code-requires
code-requires c =
    let below = rw c.at_level-state-items.ensures at c.loop-place-test.true in
    rw c.at_level-state-items.ensures (states_are c.args.spine.now c.loop-place.place 0 below).here

pub returns-in_err-push_total-clause-err : goal.returns-in_err-push_total-clause-err
returns-in_err-push_total-clause-err c =
    let f : ℕ → List ℕ = λ u. row_text (total_row c.args.spine.now c.args.totals.now u) in
    let done = flat_map f (take c.loop-place.place c.at_level-state-items.result.now) in
    on_err c.from_residual-in_err-push_total.result
    (kept_start c.args.out.now.items c.loop-place.out.items c.push_total.new.out.items (row_text header ++ done)
    (c.loop-place.invariant ∙ append_assoc c.args.out.now.items (row_text header) done) c.in_err-push_total.ensures.err)

pub loop-place-preserved : goal.loop-place-preserved
loop-place-preserved c =
    let sp = c.args.spine.now in
    let k = c.loop-place.place in
    let below = rw c.at_level-state-items.ensures at c.loop-place-test.true in
    let code = c.code.ensures.code ∙ ap (λ us. code_of sp (get_or us k 0)) c.at_level-state-items.ensures in
    let total = c.nth.ensures.number ∙ sym (total_at sp c.args.totals.now k below) in
    let part = ap (λ text. row_text (text ∷ decimal c.nth.result ∷ [])) code ∙ ap (λ n. row_text (code_of sp (get_or (units_at sp 1) k 0) ∷ decimal n ∷ [])) total in
    one_more (λ u. row_text (total_row sp c.args.totals.now u)) c.at_level-state-items.result.now k 0 (c.args.out.now.items ++ row_text header) c.loop-place.out.items c.push_total.new.out.items
    (row_text (c.code.result.now ∷ decimal c.nth.result ∷ [])) c.loop-place-test.true c.loop-place.invariant c.in_ok-push_total.ensures.ok
    (part ∙ ap (λ us. row_text (total_row sp c.args.totals.now (get_or us k 0))) (sym c.at_level-state-items.ensures))

pub returns-clause-ok : goal.returns-clause-ok
returns-clause-ok c =
    let f : ℕ → List ℕ = λ u. row_text (total_row c.args.spine.now c.args.totals.now u) in
    let states = c.at_level-state-items.result.now in
    let all : c.loop-place.place ≡ length states = omega (arith, c.loop-place-test.false, c.loop-place.auto.place-end) in
    let whole = ap (λ n. take n states) all ∙ take-length states ∙ c.at_level-state-items.ensures in
    c.loop-place.invariant
    ∙ append_assoc c.args.out.now.items (row_text header) (flat_map f (take c.loop-place.place states))
    ∙ ap (λ us. c.args.out.now.items ++ (row_text header ++ flat_map f us)) whole
