use Rattle.std.proofs.Common.{length, ap, ◌∙◌, arith}
use Rattle.tda_schema.specs.Parts.{Parts}
use Rattle.tda_schema.proofs.WholeLemmas.{length-possible}
use Rattle.tda_schema.proofs.readers.Schema.cells.Goals as goal

pub overflow_cast-result : goal.overflow_cast-result
overflow_cast-result c =
    let items = ap (λ (p : Parts). length p.possible) (c.behind-self.view_is ∙ c.parts.ensures.value.value) ∙ length-possible c.args.self.now in
    let few = c.parts.ensures.limits.cells in
    grind (arith, items, few)

pub returns-clause-count : goal.returns-clause-count
returns-clause-count c =
    let items = ap (λ (p : Parts). length p.possible) (c.behind-self.view_is ∙ c.parts.ensures.value.value) ∙ length-possible c.args.self.now in
    grind (arith, items)
