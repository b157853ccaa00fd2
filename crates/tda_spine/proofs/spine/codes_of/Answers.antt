use Rattle.std.proofs.Common.{◌≡◌, ◌∙◌, ap, sym, subst, ℕ, List, All}
use Rattle.tda_model.specs.Spine.{code_of}
use Rattle.tda_spine.specs.Sound.{spine_of}
use Rattle.tda_spine.proofs.CodeLists.{codes_apart}
use Rattle.tda_spine.proofs.Lookups.{code_at}
use Rattle.tda_spine.proofs.spine.codes_of.Goals as goal

pub push-requires : goal.push-requires
push-requires c =
    let units = c.args.units.now in
    let n = c.loop-unit.unit-index in
    let code : code_of (spine_of 0 units) n ≡ c.as_bytes.result.now =
    code_at (spine_of 0 units) n c.unit-item.result c.unit-item.is c.loop-unit-test.true ∙ sym (ap (λ x. x.code) c.unit.view_is) ∙ sym c.as_bytes.ensures.value in
    let P : List (List ℕ) → Type 0 = All (λ known. c.as_bytes.result.now ≡ known → ⊥) in
    subst P (sym c.loop-unit.invariant) (codes_apart units n c.as_bytes.result.now c.loop-unit-test.true c.requires code)
