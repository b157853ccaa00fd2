use Rattle.std.proofs.Common.{length, get_or, ap, ◌∙◌, arith}
use Rattle.tda_schema.specs.Parts.{Parts}
use Rattle.tda_schema.proofs.WholeLemmas.{length-possible, possible_at}
use Rattle.tda_schema.proofs.readers.Schema.possible.Goals as goal

pub index-requires : goal.index-requires
index-requires c =
    let items = ap (λ (p : Parts). length p.possible) (c.behind-self.view_is ∙ c.parts.ensures.value.value) ∙ length-possible c.args.self.now in
    grind (arith, items)

pub returns : goal.returns
returns c =
    let items = ap (λ (p : Parts). get_or p.possible c.args.cell c.index.result.now) (c.behind-self.view_is ∙ c.parts.ensures.value.value) in
    c.index.ensures ∙ items ∙ possible_at c.args.self.now c.args.cell c.index.result.now c.requires
