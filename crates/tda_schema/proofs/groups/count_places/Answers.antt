use Rattle.std.proofs.Common.{◌≡◌, ◌∙◌, ap, length, get_or, arith}
use Rattle.std.proofs.lemmas.List.Sums.{sum_by_more_le, sum_by-le}
use Rattle.tda_schema.specs.Parts.{QueryParts}
use Rattle.tda_schema.proofs.groups.count_places.Goals as goal

pub overflow_add-places : goal.overflow_add-places
overflow_add-places c =
    let queries = c.args.queries.now in
    let q = c.query-item.result in
    let count = λ (p : QueryParts). length p.classes in
    let more = sum_by_more_le count queries c.loop-query.query-index q c.loop-query-test.true in
    let small = sum_by-le count 4096 queries c.requires.classes in
    let size : c.len.result ≡ length (get_or queries c.loop-query.query-index q).classes =
    c.len.ensures ∙ c.query.inside.classes.ok.0 ∙ ap (λ (p : QueryParts). length p.classes) c.query.view_is ∙ ap (λ (p : QueryParts). length p.classes) c.query-item.is in
    omega (arith, more, small, size, c.loop-query.invariant, c.requires.few)
