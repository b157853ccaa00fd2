use Rattle.std.proofs.Common.{◌≡◌, ap, ◌∙◌, arith}
use Rattle.tda_model.specs.Schema.{Query}
use Rattle.tda_schema.proofs.Commons.{some-lcm, within-limited, one_more, passes}
use Rattle.tda_schema.proofs.shares.common_with.Goals as goal

pub limited_lcm-requires-clause-second : goal.limited_lcm-requires-clause-second
limited_lcm-requires-clause-second c = omega (arith, c.den.ensures.reduced.reduced.denominator)

pub returns-in-None : goal.returns-in-None
returns-in-None c =
    let qs = c.args.queries.now in
    let q = c.query-item.result in
    let den : c.den.result ≡ q.share.den = c.den.ensures.value ∙ ap (λ (x : Query). x.share.den) c.query.view_is in
    passes c.args.earlier c.requires.some qs c.requires.paid c.loop-query.query-index q c.loop-query-test.true c.query-item.is c.loop-query.common c.loop-query.invariant.so_far (rw den at c.in-None.ensures)

pub loop-query-preserved : goal.loop-query-preserved
loop-query-preserved c =
    let qs = c.args.queries.now in
    let q = c.query-item.result in
    let den : c.den.result ≡ q.share.den = c.den.ensures.value ∙ ap (λ (x : Query). x.share.den) c.query.view_is in
    let found = within-limited _ _ c.in-Some.ensures in
    let some = some-lcm c.loop-query.common c.den.result c.loop-query.invariant.some (omega (arith, c.den.ensures.reduced.reduced.denominator)) in
    record {
      some = omega arith;
      small = found.1;
      so_far = found.0 ∙ rw den (one_more c.args.earlier c.requires.some qs c.requires.paid c.loop-query.query-index q c.loop-query-test.true c.query-item.is c.loop-query.common c.loop-query.invariant.so_far);
    }
