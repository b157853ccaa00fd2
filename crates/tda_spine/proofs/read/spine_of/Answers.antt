use Rattle.std.proofs.Common.{◌≡◌, ◌∙◌, refl, sym, subst, None}
use Rattle.tda_spine.specs.Rows.{spine_in}
use Rattle.tda_spine.specs.Judged.{tree_fault, first_large_fit, IsWithinLimits}
use Rattle.tda_spine.specs.Sound.{IsSound, spine_of}
use Rattle.tda_spine.proofs.Accepted.{sound, within_limits}
use Rattle.tda_spine.proofs.read.spine_of.Goals as goal

pub new-requires : goal.new-requires
new-requires c =
    let s = c.args.schema.now in
    let rows = c.args.rows.now in
    let same : spine_of c.levels.result c.in_ok-units.units.items ≡ spine_in s rows = λ i. record { depth = c.levels.ensures.count i; units = c.in_ok-units.ensures i } in
    let none : tree_fault s (spine_in s rows) ≡ None = sym c.tree_fault.ensures ∙ c.in_default.is in
    subst IsSound (sym same) (sound s rows c.levels.ensures.limits.some_levels c.levels.ensures.limits.levels c.requires none)

pub returns-clause-limits : goal.returns-clause-limits
returns-clause-limits c =
    let s = c.args.schema.now in
    let rows = c.args.rows.now in
    let same : c.in_ok-spine.spine ≡ spine_in s rows = c.in_ok-spine.ensures ∙ (λ i. record { depth = c.levels.ensures.count i; units = c.in_ok-units.ensures i }) in
    let none : tree_fault s (spine_in s rows) ≡ None = sym c.tree_fault.ensures ∙ c.in_default.is in
    let small : first_large_fit s c.in_ok-spine.spine ≡ None = sym c.first_large_fit.ensures ∙ c.in-None.is in
    let tree = (sound s rows c.levels.ensures.limits.some_levels c.levels.ensures.limits.levels c.requires none).tree in
    subst (IsWithinLimits s) (sym same) (within_limits s (spine_in s rows) refl tree none (subst (λ sp. first_large_fit s sp ≡ None) same small))
