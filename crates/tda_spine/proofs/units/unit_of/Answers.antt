use Rattle.std.proofs.Common.{◌≡◌, ◌∙◌, ap, ℕ, List, Option, unwrap_or}
use Rattle.tda_model.specs.Spine.{SpineUnit}
use Rattle.tda_spine.specs.Rows.{level_named}
use Rattle.tda_spine.proofs.units.unit_of.Goals as goal

unit_is : (code code2 : List ℕ) (level level2 : ℕ) (parent parent2 : Option ℕ) → code ≡ code2 → level ≡ level2 → parent ≡ parent2
    → (let a : SpineUnit = record { code = code; level = level; parent = parent } in a) ≡ record { code = code2; level = level2; parent = parent2 }
unit_is code code2 level level2 parent parent2 same_code same_level same_parent =
    λ i. record { code = same_code i; level = same_level i; parent = same_parent i }

pub returns : goal.returns
returns c =
    unit_is _ _ _ _ _ _ (c.in_ok-code.ensures.ok ∙ c.text_of.ensures ∙ c.code.ensures)
    (c.unwrap_or-level.ensures ∙ ap (λ o. unwrap_or o 0) (c.find_level.ensures ∙ ap (level_named c.args.schema.now) c.level.ensures))
    c.parent_place-parent.ensures.place
