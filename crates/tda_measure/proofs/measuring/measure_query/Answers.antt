use Rattle.std.proofs.Common.{◌≡◌, ◌∙◌, ◌<◌, ◌≤◌, ℕ, List, [], ◌∷◌, length, map, get_or, ap, subst, arith}
use Rattle.std.proofs.lemmas.List.Concat.{flat_map_single}
use Rattle.std.proofs.lemmas.List.Elements.{All-get_or}
use Rattle.std.proofs.lemmas.Result.{err_from_is_err_and}
use Rattle.tda_model.specs.Groups.{classes_of}
use Rattle.tda_noise.proofs.Counted.{counts_on}
use Rattle.tda_schema.specs.Stated.{queries_at, query_at}
use Rattle.tda_measure.specs.Steps.{Step, written_step, Adds, Stops}
use Rattle.tda_measure.proofs.ClassSums.{class_is_cell}
use Rattle.tda_measure.proofs.Walking.{adds_next, adds_all, adds_same, stops_next, stops_same}
use Rattle.tda_measure.proofs.measuring.measure_query.Goals as goal

pub bounds-sums-class : goal.bounds-sums-class
bounds-sums-class g c =
    let s = c.args.schema.now in
    let q = query_at s c.args.level c.args.query in
    let value = c.classes-class-items.ensures.value in
    let whole : q.only ≡ [] = All-get_or (λ p. p.only ≡ []) (queries_at s c.args.level) c.args.query _ c.requires.query c.queries.ensures.over_all in
    let many = ap length value in
    let below : c.loop-class.class-index < length (classes_of s q) = omega (arith, many, c.loop-class-test.true) in
    let is = ap (λ ys. get_or ys c.loop-class.class-index 0) value in
    let cell = class_is_cell s q (λ k. 0) whole c.loop-class.class-index 0 below in
    omega (arith, is, cell, c.requires.size)

pub returns-in_err-measure_place-clause-err : goal.returns-in_err-measure_place-clause-err
returns-in_err-measure_place-clause-err g c =
    let q = query_at c.args.schema.now c.args.level c.args.query in
    let sums = c.args.sums.now in
    let xs = c.classes-class-items.result.now in
    let f : ℕ → List Step = λ k. written_step q sums k ∷ [] in
    let i = c.loop-class.class-index in
    let w = g.W.Words.words c.args.w.now in
    let m = g.W.Words.words c.loop-class.w in
    let r = g.W.Words.words c.measure_place.new.w in
    let a = c.args.numbers.now.items in
    let b = c.loop-class.numbers.items in
    let why = c.in_err-measure_place.field-0.0 in
    let all = flat_map_single (written_step q sums) xs ∙ ap (map (written_step q sums)) c.classes-class-items.ensures.value in
    let p = err_from_is_err_and c.from_residual.result c.from_residual.ensures.1 in
    rw (p.1, p.2)
    (λ other.
    let stops = subst (λ v. Stops (record { sum = get_or sums (get_or xs i 0) 0; variance = v } ∷ []) m b why r) c.variance_of-variance.ensures.value (c.in_err-measure_place.ensures.err other) in
    stops_same _ _ w a why r all (stops_next f xs w a i 0 b m why r c.loop-class-test.true c.loop-class.invariant.adds stops))

pub loop-class-preserved : goal.loop-class-preserved
loop-class-preserved g c =
    let q = query_at c.args.schema.now c.args.level c.args.query in
    let sums = c.args.sums.now in
    let xs = c.classes-class-items.result.now in
    let f : ℕ → List Step = λ k. written_step q sums k ∷ [] in
    let i = c.loop-class.class-index in
    let w = g.W.Words.words c.args.w.now in
    let m = g.W.Words.words c.loop-class.w in
    let r = g.W.Words.words c.measure_place.new.w in
    let a = c.args.numbers.now.items in
    let b = c.loop-class.numbers.items in
    let d = c.measure_place.new.numbers.items in
    let adds = subst (λ v. Adds (record { sum = get_or sums (get_or xs i 0) 0; variance = v } ∷ []) m b d r) c.variance_of-variance.ensures.value c.in_ok-measure_place.ensures.ok in
    record {
      adds = adds_next f xs w a i 0 b d m r c.loop-class-test.true c.loop-class.invariant.adds adds;
      counts = counts_on _ _ _ _ _ _ c.loop-class.invariant.counts c.measure_place.ensures.counts;
    }

pub returns-clause-ok : goal.returns-clause-ok
returns-clause-ok g c =
    let q = query_at c.args.schema.now c.args.level c.args.query in
    let sums = c.args.sums.now in
    let xs = c.classes-class-items.result.now in
    let f : ℕ → List Step = λ k. written_step q sums k ∷ [] in
    let all = flat_map_single (written_step q sums) xs ∙ ap (map (written_step q sums)) c.classes-class-items.ensures.value in
    let past : length xs ≤ c.loop-class.class-index = omega arith in
    adds_same _ _ _ _ _ _ all (adds_all f xs _ _ c.loop-class.class-index _ _ past c.loop-class.invariant.adds)
