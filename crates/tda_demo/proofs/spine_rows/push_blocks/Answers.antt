use Rattle.std.proofs.Common.{◌+◌, ◌++◌, ◌∷◌, [], List, ℕ, refl, sym, ap, subst, ◌∙◌, arith, codes, append-nil}
use Rattle.tda_io.specs.Csv.{Row}
use Rattle.tda_io.specs.Texts.{row_text, IsPlain}
use Rattle.tda_demo.specs.DemoSpine.{blocks}
use Rattle.tda_demo.specs.Preorder.{child_code}
use Rattle.tda_demo.proofs.Rows.{plain_child, rows_more}
use Rattle.tda_demo.proofs.spine_rows.push_blocks.Goals as goal

pub push_unit-requires-clause-code : goal.push_unit-requires-clause-code
push_unit-requires-clause-code c =
    let few = c.requires.few in
    let low = c.loop-k-test.true in
    let plain = c.requires.plain in
    subst IsPlain (sym (c.deref.ensures.value ∙ c.in_ok-code.ensures))
    (plain_child c.args.tract.now 66 (c.loop-k.k + 1) plain.plain refl (omega arith))

pub loop-k-preserved : goal.loop-k-preserved
loop-k-preserved c =
    let k = c.loop-k.k in
    let tract = c.args.tract.now in
    let own : List ℕ → List ℕ = λ text. row_text (text ∷ codes "block" ∷ tract ∷ []) in
    let text = child_code tract (blocks c.args.size) k in
    let g : ℕ → List Row = λ i. (child_code tract (blocks c.args.size) i ∷ codes "block" ∷ tract ∷ []) ∷ [] in
    rows_more g c.args.out.now.items c.push_unit.new.out.items k
    (c.in_ok-push_unit.ensures
    ∙ ap (λ t. c.loop-k.out.items ++ own t) (c.deref.ensures.value ∙ c.in_ok-code.ensures)
    ∙ ap (λ t. c.loop-k.out.items ++ t) (sym (append-nil (own text)))
    ∙ ap (λ t. t ++ (own text ++ [])) c.loop-k.invariant)
