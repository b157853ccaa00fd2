use Rattle.std.proofs.Common.{◌≡◌, ℕ, ◌+◌, ◌<◌, ◌^◌, List, [], ◌++◌, take, drop, get_or, cond, All, length, ap, sym, subst, ◌∙◌, arith}
use Rattle.std.proofs.lemmas.List.{take-append-le, take_all}
use Rattle.tda_model.specs.Schema.{Schema}
use Rattle.tda_spine.specs.Counts.{is_named}
use Rattle.tda_spine.specs.Rows.{spine_in}
use Rattle.tda_spine.proofs.Children.{AreCounted, one_counted, all_counted, room}
use Rattle.tda_spine.proofs.UnitRows.{many, parent_is}
use Rattle.tda_spine.proofs.whole.count_children.Goals as goal

written : (old new : List ℕ) (n : ℕ) → length new ≡ n → take n (new ++ drop (length new) old) ≡ new
written old new n e = take-append-le n new (drop (length new) old) (omega arith) ∙ take_all n new (omega arith)

-- any will do
no_schema : Schema
no_schema = record { total = record { num = 0; den = 1 }; attributes = []; recodes = []; zeros = []; levels = [] }

pub count_parent-requires-clause-room : goal.count_parent-requires-clause-room
count_parent-requires-clause-room c =
    let s = no_schema in
    let rows = c.args.rows.now in
    subst (All (λ n. n < 2 ^ 30)) (sym c.deref_mut.ensures.value)
    (room (spine_in s rows) c.loop-unit.unit c.loop-unit.counts.items (omega (arith, many s rows)) (omega (arith, many s rows)) (c.loop-unit.invariant s))

pub loop-unit-preserved : goal.loop-unit-preserved
loop-unit-preserved c = λ s.
    let rows = c.args.rows.now in
    let sp = spine_in s rows in
    let unit = c.loop-unit.unit in
    let old = c.loop-unit.counts.items in
    let new = c.count_parent.new.counts in
    let same : c.deref_mut.result.now ≡ old = c.deref_mut.ensures.value in
    let len : length new ≡ length old = c.count_parent.auto.counts ∙ ap length same in
    let full : length new ≡ c.loop-unit.counts.len = omega (arith, len, c.loop-unit.counts.ok) in
    let below : unit < length rows = omega arith in
    let parent = c.parent_place.ensures.place ∙ sym (parent_is s rows unit below) in
    subst (AreCounted sp (unit + 1)) (sym (written old new c.loop-unit.counts.len full))
    (one_counted sp unit old new (omega (arith, many s rows)) (c.loop-unit.invariant s) len (λ p here.
    c.count_parent.ensures p (omega (arith, ap length same)) ∙ ap (λ xs. get_or xs p 0 + cond (is_named p c.parent_place.result) 1 0) same
    ∙ ap (λ o. get_or old p 0 + cond (is_named p o) 1 0) parent))

pub returns : goal.returns
returns c = λ s.
    let rows = c.args.rows.now in
    all_counted (spine_in s rows) c.loop-unit.unit c.loop-unit.counts.items (omega (arith, many s rows)) (c.loop-unit.invariant s)
