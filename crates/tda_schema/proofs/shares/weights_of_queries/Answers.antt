use Rattle.std.proofs.Common.{◌≡◌, ap, sym, subst}
use Rattle.std.specs.Int.{◌∣◌}
use Rattle.tda_model.specs.Schema.{Query}
use Rattle.tda_schema.proofs.shares.weights_of_queries.Goals as goal

pub weight-sum-requires-clause-parts : goal.weight-sum-requires-clause-parts
weight-sum-requires-clause-parts c =
    let q = c.query-item.result in
    let den : q.share.den ≡ c.query.inside.share.den = ap (λ (x : Query). x.share.den) (sym c.query.view_is) in
    let divides = rw (← c.query-item.is) at (c.requires.parts c.loop-query.query-index q c.loop-query-test.true) in
    subst (λ n. n ∣ c.args.common) den divides
