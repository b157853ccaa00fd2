use Rattle.std.proofs.Common.{ap}
use Rattle.tda_model.specs.Schema.{Schema}
use Rattle.tda_schema.specs.Shares.{spent_of}
use Rattle.tda_schema.proofs.Weights.{within, above}
use Rattle.tda_schema.proofs.shares.spent.Goals as goal

pub returns-then-le-clause-value : goal.returns-then-le-clause-value
returns-then-le-clause-value c =
    let total = ap (λ (x : Schema). x.total) c.schema.view_is in
    within c.sum_of_shares-sum.result c.schema.inside.total (spent_of c.args.schema.now) c.args.schema.now.total c.sum_of_shares-sum.ensures.value total (c.le.ensures.0 c.if-le.true)

pub returns-else-le-clause-value : goal.returns-else-le-clause-value
returns-else-le-clause-value c =
    let total = ap (λ (x : Schema). x.total) c.schema.view_is in
    above c.sum_of_shares-sum.result c.schema.inside.total (spent_of c.args.schema.now) c.args.schema.now.total c.sum_of_shares-sum.ensures.value total (λ h. absurd (cc (c.le.ensures.1 h, c.if-le.false)))
