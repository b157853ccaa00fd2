use Rattle.std.proofs.Common.{subst}
use Rattle.tda_schema.specs.Whole.{IsWhole}
use Rattle.tda_schema.proofs.WholeLemmas.{whole_spent}
use Rattle.tda_schema.proofs.readers.Schema.spent.Goals as goal

pub returns-clause-weights : goal.returns-clause-weights
returns-clause-weights c =
    let whole = subst (λ s. IsWhole s c.self.inside.common c.self.inside.spent c.self.inside.parts c.self.inside.values.items) c.self.view_is c.self.invariant in
    whole_spent c.args.self.now c.self.inside.common c.self.inside.spent c.self.inside.parts c.self.inside.values.items whole
