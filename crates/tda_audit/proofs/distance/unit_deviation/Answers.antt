-- One query more.
use Rattle.std.proofs.Common.{◌≡◌, ℕ, ◌+◌, ◌<◌, ◌≤◌, Contains, length, get_or, take, refl, sym, ap, ◌∙◌, subst, arith}
use Rattle.std.specs.List.{sum_by}
use Rattle.std.proofs.lemmas.List.{take_all}
use Rattle.tda_model.specs.Commons.{common_of}
use Rattle.tda_model.specs.Deviation.{deviation_from, query_deviation}
use Rattle.tda_model.specs.Groups.{classes_of, class_cells}
use Rattle.tda_model.specs.Spine.{level_of}
use Rattle.tda_schema.specs.Stated.{queries_at, query_at}
use Rattle.tda_places.specs.Places.{place}
use Rattle.tda_places.specs.Measurements.{measured_at}
use Rattle.tda_out.specs.Counts.{count_at}
use Rattle.tda_fitnet.specs.Fits.{curve_of}
use Rattle.tda_fitnet.specs.Inputs.{inputs_of}
use Rattle.tda_fitnet.proofs.Costs.{level_value}
use Rattle.tda_audit.proofs.Deviations.{deviation_more, by_counts}
use Rattle.tda_audit.proofs.Rows.{row_here, row_long}
use Rattle.tda_audit.proofs.distance.unit_deviation.Goals as goal

pub count_classes-requires-clause-unit : goal.count_classes-requires-clause-unit
count_classes-requires-clause-unit g c = row_here c.args.schema.now c.args.spine.now c.args.tables.now c.requires.counts c.args.unit c.requires.unit

pub count_classes-requires-clause-cells : goal.count_classes-requires-clause-cells
count_classes-requires-clause-cells g c = sym (row_long c.args.schema.now c.args.spine.now c.args.tables.now c.requires.counts c.args.unit c.requires.unit)

pub query_deviation-sum-requires-clause-query : goal.query_deviation-sum-requires-clause-query
query_deviation-sum-requires-clause-query g c =
    let count = c.queries-query-end.ensures.count ∙ ap (λ k. length (queries_at c.args.schema.now k)) c.level-level.ensures in
    omega (arith, count, c.loop-query-test.true)

pub overflow_add-sum : goal.overflow_add-sum
overflow_add-sum g c = omega (arith, c.loop-query.invariant.small, c.query_deviation-sum.ensures.limit, c.loop-query-test.true, c.queries-query-end.ensures.limit)

pub loop-query-preserved : goal.loop-query-preserved
loop-query-preserved g c =
    let s = c.args.schema.now in
    let x = count_at c.args.tables.now c.args.unit in
    let own = level_of c.args.spine.now c.args.unit in
    let k = c.loop-query.query in
    let curve = curve_of c.args.loss.now.curve in
    let measured = λ (q : ℕ) (j : ℕ). measured_at s c.args.spine.now c.args.m.now (place c.args.unit q j) in
    let count = c.queries-query-end.ensures.count ∙ ap (λ l. length (queries_at s l)) c.level-level.ensures in
    let below : k < length (queries_at s own) = omega (arith, count, c.loop-query-test.true) in
    let sums = subst (λ l. (j : ℕ) → Contains (classes_of s (query_at s l k)) j → get_or c.count_classes.new.counts j 0 ≡ sum_by x (class_cells s (query_at s l k) j)) c.level-level.ensures c.count_classes.ensures.sums in
    let value = c.query_deviation-sum.ensures.value ∙ by_counts curve s (common_of s) measured x (query_at s own k) (measured k) c.count_classes.new.counts sums in
    let first : 0 + k ≡ k = omega arith in
    let more = deviation_more curve s (common_of s) measured x 0 (queries_at s own) k _ below
    ∙ ap (λ n. deviation_from curve s (common_of s) 0 (take k (queries_at s own)) measured x + query_deviation curve s (common_of s) (query_at s own k) (measured n) x) first in
    record {
      size = c.count_classes.ensures.size;
      sum_is = omega (arith, c.loop-query.invariant.sum_is, value, more);
      small = omega (arith, c.loop-query.invariant.small, c.query_deviation-sum.ensures.limit);
    }

pub returns-clause-value : goal.returns-clause-value
returns-clause-value g c = λ inv.
    let s = c.args.schema.now in
    let own = level_of c.args.spine.now c.args.unit in
    let x = count_at c.args.tables.now c.args.unit in
    let curve = curve_of c.args.loss.now.curve in
    let measured = λ (q : ℕ) (j : ℕ). measured_at s c.args.spine.now c.args.m.now (place c.args.unit q j) in
    let count = c.queries-query-end.ensures.count ∙ ap (λ l. length (queries_at s l)) c.level-level.ensures in
    let all : length (queries_at s own) ≤ c.loop-query.query = omega (arith, count, c.loop-query-test.false) in
    c.loop-query.invariant.sum_is ∙ ap (λ qs. deviation_from curve s (common_of s) 0 qs measured x) (take_all c.loop-query.query (queries_at s own) all)
    ∙ sym (level_value curve (inputs_of s c.args.spine.now inv c.args.m.now) c.args.unit own x refl c.requires.level)

pub returns-clause-limit : goal.returns-clause-limit
returns-clause-limit g c = omega (arith, c.loop-query.invariant.small, c.loop-query.auto.query-end, c.queries-query-end.ensures.limit)
