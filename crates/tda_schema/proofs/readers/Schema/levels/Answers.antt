use Rattle.std.proofs.Common.{subst}
use Rattle.tda_schema.specs.Whole.{IsWhole}
use Rattle.tda_schema.proofs.WholeLemmas.{query_kept}
use Rattle.tda_schema.proofs.readers.Schema.levels.Goals as goal

pub returns-clause-queries : goal.returns-clause-queries
returns-clause-queries c =
    let whole = subst (λ s. IsWhole s c.self.inside.common c.self.inside.spent c.self.inside.parts c.self.inside.values.items) c.self.view_is c.self.invariant in
    query_kept c.args.self.now c.self.inside.common c.self.inside.spent c.self.inside.parts c.self.inside.values.items whole
