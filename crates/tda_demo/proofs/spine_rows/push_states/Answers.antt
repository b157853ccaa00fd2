use Rattle.std.proofs.Common.{◌+◌, ◌++◌, ◌∷◌, [], List, ℕ, refl, sym, ap, subst, ◌∙◌, arith, codes}
use Rattle.std.specs.List.{flat_map}
use Rattle.tda_io.specs.Csv.{Row}
use Rattle.tda_io.specs.Texts.{row_text, IsPlain}
use Rattle.tda_demo.specs.DemoSpine.{states, counties, tracts, blocks}
use Rattle.tda_demo.specs.Preorder.{Branch, child_code}
use Rattle.tda_demo.specs.PreorderRows.{rows_below}
use Rattle.tda_demo.specs.Schema.{schema}
use Rattle.tda_demo.proofs.Rows.{plain_child, rows_more, rows_under}
use Rattle.tda_demo.proofs.spine_rows.push_states.Goals as goal

pub push_unit-requires-clause-code : goal.push_unit-requires-clause-code
push_unit-requires-clause-code c =
    let low = c.loop-k-test.true in
    subst IsPlain (sym (c.deref.ensures.value ∙ c.in_ok-code.ensures))
    (plain_child [] 83 (c.loop-k.k + 1) refl refl (omega arith))

pub push_counties-requires-clause-plain : goal.push_counties-requires-clause-plain
push_counties-requires-clause-plain c =
    let low = c.loop-k-test.true in
    subst IsPlain (sym (c.deref-in-loop-k.ensures.value ∙ c.in_ok-code.ensures))
    (plain_child [] 83 (c.loop-k.k + 1) refl refl (omega arith))

pub loop-k-preserved : goal.loop-k-preserved
loop-k-preserved c =
    let k = c.loop-k.k in
    let low : List Branch = counties ∷ tracts ∷ blocks c.args.size ∷ [] in
    let below : List ℕ → List ℕ = λ text. flat_map row_text (rows_below schema low 1 text text) in
    let own : List ℕ → List ℕ = λ text. row_text (text ∷ codes "state" ∷ (codes "US") ∷ []) in
    let text = child_code [] states k in
    let g : ℕ → List Row = λ i. (child_code [] states i ∷ codes "state" ∷ (codes "US") ∷ []) ∷ rows_below schema low 1 (child_code [] states i) (child_code [] states i) in
    rows_more g c.args.out.now.items c.push_counties.new.out.items k
    (rows_under c.loop-k.out.items c.push_unit.new.out.items c.push_counties.new.out.items (own text) (below text)
    (c.in_ok-push_unit.ensures ∙ ap (λ t. c.loop-k.out.items ++ own t) (c.deref.ensures.value ∙ c.in_ok-code.ensures))
    (c.in_ok-push_counties.ensures ∙ ap (λ t. c.push_unit.new.out.items ++ below t) (c.deref-in-loop-k.ensures.value ∙ c.in_ok-code.ensures))
    ∙ ap (λ t. t ++ (own text ++ below text)) c.loop-k.invariant)
