use Rattle.std.proofs.Common.{◌≡◌, List, ap, sym, subst, ◌∙◌, arith}
use Rattle.std.specs.List.{sum_by}
use Rattle.tda_model.specs.Schema.{Schema, Level}
use Rattle.tda_model.specs.Deviation.{weight_of}
use Rattle.tda_schema.specs.Shares.{LevelsDivide, queries_of, queries_in}
use Rattle.tda_schema.proofs.Spent.{some_common, levels_divide, sum_is, some_where_positive}
use Rattle.tda_schema.proofs.shares.sum_of_shares.Goals as goal

pub weights-requires-clause-parts : goal.weights-requires-clause-parts
weights-requires-clause-parts c =
    let s = c.args.schema.now in
    let levels : c.deref.result.now ≡ s.levels = c.deref.ensures.value ∙ ap (λ (x : Schema). x.levels) c.schema.view_is in
    let parts = subst (λ m. LevelsDivide m s.levels) (sym c.requires.common) (levels_divide s c.requires.paid.levels) in
    subst (LevelsDivide c.args.common) (sym levels) parts

pub unwrap-requires : goal.unwrap-requires
unwrap-requires c =
    let some = some_common c.args.schema.now c.requires.paid.levels in
    some_where_positive c.new.result c.args.common c.new.ensures.none (omega (arith, some, c.requires.common))

pub returns-clause-value : goal.returns-clause-value
returns-clause-value c =
    let s = c.args.schema.now in
    let levels : c.deref.result.now ≡ s.levels = c.deref.ensures.value ∙ ap (λ (x : Schema). x.levels) c.schema.view_is in
    let weights : c.weights.result ≡ sum_by (weight_of c.args.common) (queries_of s) = c.weights.ensures ∙ ap (λ (ls : List Level). sum_by (weight_of c.args.common) (queries_in ls)) levels in
    sum_is s c.requires.paid.levels c.args.common c.weights.result c.unwrap.result c.requires.common weights (rw c.unwrap.ensures at c.new.ensures.value)
