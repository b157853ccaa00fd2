-- What is read of a unit by its number.
use Rattle.std.proofs.Common.{◌≡◌, ◌≢◌, ℕ, ◌<◌, Bool, true, false, ◌==◌, List, [], length, get_or, slice_get, Option, Some, None, refl, sym, ap, ◌∙◌, ne_eqb, eq-eqb}
use Rattle.tda_model.specs.Spine.{Spine, SpineUnit, IsUnit, IsTree, HasParent, level_of, parent_of, code_of, is_child, is_at}
use Rattle.tda_model.proofs.Tree.{child_tells}
use Rattle.std.proofs.lemmas.Option.{slice_get-get_or}

module _ (sp : Spine) (u : ℕ) where
  module _ (x : SpineUnit) (at : x ≡ get_or sp.units u x) (here : u < length sp.units) where
    pub unit_at : slice_get sp.units u ≡ Some x
    unit_at = slice_get-get_or sp.units u x here ∙ ap Some (sym at)

    pub level_at : level_of sp u ≡ x.level
    level_at = ap (λ o. elim o as (λ _. ℕ) [ Some y ↦ y.level | None ↦ 0 ]) unit_at

    pub parent_at : parent_of sp u ≡ x.parent
    parent_at = ap (λ o. elim o as (λ _. Option ℕ) [ Some y ↦ y.parent | None ↦ None ]) unit_at

    pub code_at : code_of sp u ≡ x.code
    code_at = ap (λ o. elim o as (λ _. List ℕ) [ Some y ↦ y.code | None ↦ [] ]) unit_at

  pub child_by : (p : ℕ) (o : Option ℕ) → parent_of sp u ≡ o → is_child sp p u ≡ elim o as (λ _. Bool) [ Some q ↦ p == q | None ↦ false ]
  child_by p o e = ap (λ v. elim v as (λ _. Bool) [ Some q ↦ p == q | None ↦ false ]) e

  pub child_yes : (q : ℕ) → parent_of sp u ≡ Some q → is_child sp q u ≡ true
  child_yes q e = child_by q (Some q) e ∙ eq-eqb q q refl

  pub child_no : (p q : ℕ) → parent_of sp u ≡ Some q → p ≢ q → is_child sp p u ≡ false
  child_no p q e ne = child_by p (Some q) e ∙ ne_eqb p q ne

  pub child_never : (p : ℕ) → parent_of sp u ≡ None → is_child sp p u ≡ false
  child_never p e = child_by p None e

  pub parent_tells : (nation q : ℕ) → IsTree sp nation → IsUnit sp u → parent_of sp u ≡ Some q → HasParent sp u q
  parent_tells nation q t here e = child_tells sp nation t q u here (child_yes q e)

  pub at_yes : (level : ℕ) → level_of sp u ≡ level → is_at sp level u ≡ true
  at_yes level e = eq-eqb _ _ e

  pub at_no : (level other : ℕ) → level_of sp u ≡ level → other ≢ level → is_at sp other u ≡ false
  at_no level other e ne = ne_eqb _ _ (λ same. ne (sym same ∙ e))
