use Rattle.std.proofs.Common.{subst}
use Rattle.tda_schema.specs.Whole.{IsWhole}
use Rattle.tda_schema.proofs.WholeLemmas.{whole_common}
use Rattle.tda_schema.proofs.readers.Schema.common.Goals as goal

pub returns-clause-least : goal.returns-clause-least
returns-clause-least c =
    let whole = subst (λ s. IsWhole s c.self.inside.common c.self.inside.spent c.self.inside.parts c.self.inside.values.items) c.self.view_is c.self.invariant in
    (whole_common c.args.self.now c.self.inside.common c.self.inside.spent c.self.inside.parts c.self.inside.values.items whole).0

pub returns-clause-some : goal.returns-clause-some
returns-clause-some c =
    let whole = subst (λ s. IsWhole s c.self.inside.common c.self.inside.spent c.self.inside.parts c.self.inside.values.items) c.self.view_is c.self.invariant in
    (whole_common c.args.self.now c.self.inside.common c.self.inside.spent c.self.inside.parts c.self.inside.values.items whole).1
