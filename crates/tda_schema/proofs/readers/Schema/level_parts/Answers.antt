use Rattle.std.proofs.Common.{subst}
use Rattle.tda_schema.specs.Whole.{IsWhole}
use Rattle.tda_schema.proofs.readers.Schema.level_parts.Goals as goal

pub returns-clause-nested : goal.returns-clause-nested
returns-clause-nested c =
    let whole = subst (λ s. IsWhole s c.self.inside.common c.self.inside.spent c.self.inside.parts c.self.inside.values.items) c.self.view_is c.self.invariant in
    whole.parts.nested c.args.level _ c.requires
