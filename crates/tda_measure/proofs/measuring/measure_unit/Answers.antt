use Rattle.std.proofs.Common.{◌≡◌, ◌<◌, ◌≤◌, ℕ, List, length, get_or, arith}
use Rattle.std.proofs.lemmas.List.Elements.{All-weaker}
use Rattle.std.proofs.lemmas.Result.{err_from_is_err_and}
use Rattle.tda_model.specs.Bounds.{persons_limit}
use Rattle.tda_model.specs.Groups.{classes_of}
use Rattle.tda_noise.proofs.Counted.{counts_on}
use Rattle.tda_out.specs.Counts.{count_at}
use Rattle.tda_schema.specs.Stated.{queries_at, query_at}
use Rattle.tda_hist.specs.TrueTable.{class_sum}
use Rattle.tda_measure.specs.Steps.{Step, query_steps}
use Rattle.tda_measure.proofs.ClassSums.{class_few, written_steps}
use Rattle.tda_measure.proofs.Walking.{adds_up, adds_up_all, adds_same, stops_up, stops_same}
use Rattle.tda_measure.proofs.measuring.measure_unit.Goals as goal

pub measure_query-requires-clause-few : goal.measure_query-requires-clause-few
measure_query-requires-clause-few g c =
    let s = c.args.schema.now in
    let q = query_at s c.args.level c.loop-query.query in
    let x = count_at c.args.tables.now c.args.unit in
    let sums = c.write_sums.new.sums in
    let few = c.requires.counts.few in
    All-weaker (λ k. get_or sums k 0 ≡ class_sum s q x k) (λ k. get_or sums k 0 ≤ persons_limit) (λ k is. omega (arith, is, class_few s q x k, few)) (classes_of s q) c.write_sums.ensures.sums

pub returns-in_err-measure_query-clause-err : goal.returns-in_err-measure_query-clause-err
returns-in_err-measure_query-clause-err g c =
    let s = c.args.schema.now in
    let level = c.args.level in
    let x = count_at c.args.tables.now c.args.unit in
    let f : ℕ → List Step = λ query. query_steps s (query_at s level query) x in
    let n = length (queries_at s level) in
    let i = c.loop-query.query in
    let m = g.W.Words.words c.loop-query.w in
    let r = g.W.Words.words c.measure_query.new.w in
    let b = c.loop-query.numbers.items in
    let why = c.in_err-measure_query.field-0.0 in
    let below : i < n = omega (arith, c.loop-query-test.true, c.queries-query-end.ensures.count) in
    let same = written_steps s (query_at s level i) x c.write_sums.new.sums c.write_sums.ensures.sums in
    let p = err_from_is_err_and c.from_residual.result c.from_residual.ensures.1 in
    rw (p.1, p.2)
    (λ other. stops_up f n (g.W.Words.words c.args.w.now) c.args.numbers.now.items i b m why r below c.loop-query.invariant.adds (stops_same _ _ m b why r same (c.in_err-measure_query.ensures.err other)))

pub loop-query-preserved : goal.loop-query-preserved
loop-query-preserved g c =
    let s = c.args.schema.now in
    let level = c.args.level in
    let x = count_at c.args.tables.now c.args.unit in
    let f : ℕ → List Step = λ query. query_steps s (query_at s level query) x in
    let n = length (queries_at s level) in
    let i = c.loop-query.query in
    let m = g.W.Words.words c.loop-query.w in
    let r = g.W.Words.words c.measure_query.new.w in
    let b = c.loop-query.numbers.items in
    let d = c.measure_query.new.numbers.items in
    let below : i < n = omega (arith, c.loop-query-test.true, c.queries-query-end.ensures.count) in
    let same = written_steps s (query_at s level i) x c.write_sums.new.sums c.write_sums.ensures.sums in
    record {
      adds = adds_up f n (g.W.Words.words c.args.w.now) c.args.numbers.now.items i b d m r below c.loop-query.invariant.adds (adds_same _ _ m b d r same c.in_ok-measure_query.ensures.ok);
      counts = counts_on _ _ _ _ _ _ c.loop-query.invariant.counts c.measure_query.ensures.counts;
      size = c.write_sums.ensures.size;
    }

pub returns-clause-ok : goal.returns-clause-ok
returns-clause-ok g c =
    let s = c.args.schema.now in
    let level = c.args.level in
    let x = count_at c.args.tables.now c.args.unit in
    let f : ℕ → List Step = λ query. query_steps s (query_at s level query) x in
    let past : length (queries_at s level) ≤ c.loop-query.query = omega (arith, c.loop-query-test.false, c.queries-query-end.ensures.count) in
    adds_up_all f (length (queries_at s level)) _ _ c.loop-query.query _ _ past c.loop-query.invariant.adds
