use Rattle.std.proofs.Common.{◌≡◌, ap, arith, length}
use Rattle.tda_schema.specs.Stated.{queries_at}
use Rattle.tda_places.specs.Spots.{before_query}
use Rattle.tda_places.proofs.Sizes.{before_all}
use Rattle.tda_places.proofs.spot.query_of_index.Goals as goal

pub unreachable-requires : goal.unreachable-requires
unreachable-requires c =
    let s = c.args.schema.now in
    let all : c.loop-query.query ≡ length (queries_at s c.args.level) = omega (arith, c.loop-query-test.false, c.loop-query.auto.query-end, c.queries-query-end.ensures.count) in
    let whole = ap (before_query s c.args.level) all in
    omega (arith, whole, before_all s c.args.level, c.loop-query.invariant, c.requires.index)
