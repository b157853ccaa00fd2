use Rattle.std.proofs.Common.{ap, subst}
use Rattle.tda_model.specs.Schema.{Fraction}
use Rattle.tda_schema.specs.Whole.{IsWhole}
use Rattle.tda_schema.proofs.WholeLemmas.{query_kept, whole_common}
use Rattle.tda_schema.proofs.readers.Schema.weight.Goals as goal

pub weight-requires-clause-parts : goal.weight-requires-clause-parts
weight-requires-clause-parts c =
    let whole = subst (λ s. IsWhole s c.self.inside.common c.self.inside.spent c.self.inside.parts c.self.inside.values.items) c.self.view_is c.self.invariant in
    let kept = query_kept c.args.self.now c.self.inside.common c.self.inside.spent c.self.inside.parts c.self.inside.values.items whole c.args.level c.args.query c.requires.level c.requires.query in
    let den = ap (λ (f : Fraction). f.den) c.share.ensures.value in
    rw (den, whole.common) kept.parts

pub returns-clause-some : goal.returns-clause-some
returns-clause-some c =
    let whole = subst (λ s. IsWhole s c.self.inside.common c.self.inside.spent c.self.inside.parts c.self.inside.values.items) c.self.view_is c.self.invariant in
    c.weight.ensures.some (whole_common c.args.self.now c.self.inside.common c.self.inside.spent c.self.inside.parts c.self.inside.values.items whole).1
