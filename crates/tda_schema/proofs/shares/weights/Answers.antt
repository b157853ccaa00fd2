use Rattle.std.proofs.Common.{◌≡◌, ap, sym, subst, ◌∙◌}
use Rattle.tda_model.specs.Schema.{Level}
use Rattle.tda_schema.specs.Shares.{QueriesDivide}
use Rattle.tda_schema.proofs.shares.weights.Goals as goal

pub weights_of_queries-sum-requires-clause-parts :
    goal.weights_of_queries-sum-requires-clause-parts
weights_of_queries-sum-requires-clause-parts c =
    let l = c.level-item.result in
    let queries : c.deref.result.now ≡ l.queries = c.deref.ensures.value ∙ ap (λ (x : Level). x.queries) c.level.view_is in
    let divide = rw (← c.level-item.is) at (c.requires.parts c.loop-level.level-index l c.loop-level-test.true) in
    subst (QueriesDivide c.args.common) (sym queries) divide
