use Rattle.std.proofs.Common.{◌≡◌, ◌<◌, ◌-◌, ◌++◌, ◌∷◌, [], ap, ◌∙◌, sym, length, get_or, arith, eq-eqb, ℕ}
use Rattle.std.specs.List.{flat_map}
use Rattle.std.proofs.lemmas.List.{append-nil, take_all, nil_from_length}
use Rattle.std.proofs.lemmas.Bool.{eqb-true, false≢true}
use Rattle.tda_model.specs.Spine.{children_of, preorder_from}
use Rattle.tda_spine.proofs.Walks.{children_length, children_get, among_children, preorder_none, preorder_some}
use Rattle.tda_spine.proofs.tree.+walk.Goals.{then-steps-eq0-via-then-steps-eq0, then-steps-eq0-via-else-steps-eq0+then-is_empty}
use Rattle.tda_spine.proofs.tree.+walk.Goals as goal

pos_from_ne : (n : ℕ) → (n ≡ 0 → ⊥) → 0 < n
pos_from_ne n ne = omega arith

pub returns-then-steps-eq0 : goal.returns-then-steps-eq0
returns-then-steps-eq0 t c = λ sp e.
    elim c.then-steps-eq0.branch [
      | then-steps-eq0-via-then-steps-eq0 w ↦
          sym (append-nil _) ∙ ap (λ n. c.args.order.now.items ++ preorder_from sp n c.args.unit) (sym w.if-steps-eq0.true)
      | then-steps-eq0-via-else-steps-eq0+then-is_empty w ↦
          let unit : c.args.unit < length sp.units = omega (arith, ap length e, children_length sp) in
          let under : c.get-under.result.now ≡ children_of sp c.args.unit = c.get-under.ensures ∙ ap (λ xs. get_or xs c.args.unit []) e ∙ children_get sp c.args.unit unit in
          let none : c.get-under.result.now ≡ [] = nil_from_length _ (eqb-true _ _ (sym w.is_empty.ensures ∙ w.if-is_empty.true)) in
          sym (append-nil _) ∙ ap (λ xs. c.args.order.now.items ++ xs) (sym (preorder_none sp c.args.steps c.args.unit (sym under ∙ none)))
    ]

pub walk-requires : goal.walk-requires
walk-requires t c =
    let sp = c.requires.spine.0 in
    let same = c.requires.spine.1 in
    let unit : c.args.unit < length sp.units = omega (arith, ap length same, children_length sp) in
    let under = c.get-under.ensures ∙ ap (λ xs. get_or xs c.args.unit []) same ∙ children_get sp c.args.unit unit in
    let below : get_or c.get-under.result.now c.loop-child.child-index 0 < length sp.units = among_children sp c.args.unit c.loop-child.child-index c.get-under.result.now under c.loop-child-test.true in
    (omega arith, (c.requires.spine, omega (arith, ap length same, children_length sp)))

pub returns : goal.returns
returns t c = λ sp e.
    let unit : c.args.unit < length sp.units = omega (arith, ap length e, children_length sp) in
    let under : children_of sp c.args.unit ≡ c.get-under.result.now = sym (c.get-under.ensures ∙ ap (λ xs. get_or xs c.args.unit []) e ∙ children_get sp c.args.unit unit) in
    let some : 0 < length c.get-under.result.now = pos_from_ne _ (λ z. false≢true (sym c.if-is_empty.false ∙ c.is_empty.ensures ∙ eq-eqb _ _ z)) in
    c.loop-child.invariant sp e
    ∙ ap (λ xs. c.args.order.now.items ++ c.args.unit ∷ flat_map (preorder_from sp (c.args.steps - 1)) xs) (take_all c.loop-child.child-index c.get-under.result.now c.loop-child-test.false)
    ∙ ap (λ xs. c.args.order.now.items ++ xs) (sym (preorder_some sp c.args.steps c.args.unit c.get-under.result.now (omega arith) some under))
