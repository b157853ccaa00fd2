-- One class more.
use Rattle.std.proofs.Common.{◌≡◌, ℕ, ◌*◌, ◌<◌, ◌≤◌, pos, ◌-ℤ◌, length, get_or, Contains, ap, ◌∙◌, subst, arith}
use Rattle.std.specs.List.{sum_by}
use Rattle.std.proofs.lemmas.List.{take_all}
use Rattle.std.proofs.lemmas.List.Elements.{Contains-get_or}
use Rattle.tda_model.specs.Commons.{common_of}
use Rattle.tda_model.specs.Deviation.{weight_of}
use Rattle.tda_model.specs.Groups.{classes_of}
use Rattle.tda_model.specs.Spine.{level_of}
use Rattle.tda_schema.specs.Stated.{queries_at, query_at}
use Rattle.tda_places.specs.Places.{place}
use Rattle.tda_places.specs.Measurements.{measured_at}
use Rattle.tda_fitnet.specs.Fits.{curve_of}
use Rattle.tda_audit.proofs.Deviations.{target_back, sum_step, class_low}
use Rattle.tda_audit.proofs.distance.query_deviation.Goals as goal

pub overflow_cast-place : goal.overflow_cast-place
overflow_cast-place g c =
    let count = c.queries.ensures.count ∙ ap (λ k. length (queries_at c.args.schema.now k)) c.level-level.ensures in
    omega (arith, count, c.queries.ensures.limit, c.requires.query)

pub at-target-requires-clause-place : goal.at-target-requires-clause-place
at-target-requires-clause-place g c =
    let s = c.args.schema.now in
    let classes = c.classes-class-items.ensures.value ∙ ap (λ k. classes_of s (query_at s k c.args.query)) c.level-level.ensures in
    record {
      unit = c.requires.unit;
      query = c.requires.query;
      class = subst (λ xs. Contains xs (get_or c.classes-class-items.result.now c.loop-class.class-index 0)) classes (Contains-get_or c.classes-class-items.result.now c.loop-class.class-index 0 c.loop-class-test.true);
    }

pub bounds-counts-class : goal.bounds-counts-class
bounds-counts-class g c =
    let s = c.args.schema.now in
    let items = c.classes-class-items.result.now in
    let k = c.loop-class.class-index in
    let found = subst (λ xs. Contains xs (get_or items k 0)) c.classes-class-items.ensures.value (Contains-get_or items k 0 c.loop-class-test.true) in
    omega (arith, class_low s (query_at s c.level-level.result c.args.query) (get_or items k 0) found, c.requires.size)

pub overflow_add-sum : goal.overflow_add-sum
overflow_add-sum g c =
    omega (arith, c.loop-class.invariant.small, c.class_deviation-sum.ensures.limit, c.loop-class-test.true, c.classes-class-items.ensures.limit, c.cells.ensures.count, c.cells.ensures.limits.cells)

pub loop-class-preserved : goal.loop-class-preserved
loop-class-preserved g c =
    let s = c.args.schema.now in
    let sp = c.args.spine.now in
    let m = c.args.m.now in
    let curve = c.args.loss.now.curve in
    let u = c.args.unit in
    let query = c.args.query in
    let counts = c.args.counts.now in
    let q = query_at s (level_of sp u) query in
    let k = c.loop-class.class-index in
    let items = c.classes-class-items.result.now in
    let classes : items ≡ classes_of s q = c.classes-class-items.ensures.value ∙ ap (λ l. classes_of s (query_at s l query)) c.level-level.ensures in
    let below : k < length (classes_of s q) = omega (arith, ap length classes, c.loop-class-test.true) in
    let class = ap (λ xs. get_or xs k 0) classes in
    let f : ℕ → ℕ = λ j. weight_of (common_of s) q * curve_of curve (pos (get_or counts j 0) -ℤ measured_at s sp m (place u query j)) in
    let weight = c.weight-weight.ensures.value ∙ ap (λ l. weight_of (common_of s) (query_at s l query)) c.level-level.ensures in
    let own = get_or items k 0 in
    let value : c.class_deviation-sum.result ≡ f (get_or (classes_of s q) k 0) =
    c.class_deviation-sum.ensures.value
    ∙ ap (λ z. c.weight-weight.result * curve_of curve (pos (get_or counts own 0) -ℤ z)) (target_back c.at-target.result c.at-target.ensures.limit ∙ c.at-target.ensures.value)
    ∙ ap (λ w. w * curve_of curve (pos (get_or counts own 0) -ℤ measured_at s sp m (place u query own))) weight
    ∙ ap f class in
    record {
      sum_is = omega (arith, c.loop-class.invariant.sum_is, value, sum_step f (classes_of s q) k below);
      small = omega (arith, c.loop-class.invariant.small, c.class_deviation-sum.ensures.limit);
    }

pub returns-clause-value : goal.returns-clause-value
returns-clause-value g c =
    let s = c.args.schema.now in
    let q = query_at s (level_of c.args.spine.now c.args.unit) c.args.query in
    let classes = c.classes-class-items.ensures.value ∙ ap (λ l. classes_of s (query_at s l c.args.query)) c.level-level.ensures in
    let all : length (classes_of s q) ≤ c.loop-class.class-index = omega (arith, ap length classes, c.loop-class-test.false) in
    c.loop-class.invariant.sum_is
    ∙ ap (sum_by (λ j. weight_of (common_of s) q * curve_of c.args.loss.now.curve (pos (get_or c.args.counts.now j 0) -ℤ measured_at s c.args.spine.now c.args.m.now (place c.args.unit c.args.query j)))) (take_all c.loop-class.class-index (classes_of s q) all)

pub returns-clause-limit : goal.returns-clause-limit
returns-clause-limit g c =
    omega (arith, c.loop-class.invariant.small, c.loop-class.auto.class-index-end, c.classes-class-items.ensures.limit, c.cells.ensures.count, c.cells.ensures.limits.cells)
