use Rattle.std.proofs.Common.{◌≡◌, length, ap, ◌∙◌, arith}
use Rattle.tda_model.specs.Groups.{classes_of}
use Rattle.tda_schema.specs.Parts.{QueryParts}
use Rattle.tda_schema.specs.Stated.{query_at}
use Rattle.tda_schema.proofs.WholeLemmas.{length-classes_of}
use Rattle.tda_schema.proofs.readers.Schema.classes.Goals as goal

pub returns-clause-limit : goal.returns-clause-limit
returns-clause-limit c =
    let s = c.args.self.now in
    let q = query_at s c.args.level c.args.query in
    let few = length-classes_of s q in
    let same : c.deref.result.now ≡ classes_of s q = c.deref.ensures.value ∙ ap (λ (p : QueryParts). p.classes) (c.behind-self.view_is ∙ c.query_parts.ensures) in
    omega (arith, few, ap length same)
