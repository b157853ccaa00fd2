use Rattle.std.proofs.Common.{◌≡◌, ◌<◌, ◌≤◌, ◌∙◌, [], length, ap, sym, subst, arith}
use Rattle.std.proofs.lemmas.Result.{err_from_is_err_and}
use Rattle.std.proofs.lemmas.List.{with_items_is}
use Rattle.tda_noise.proofs.Counted.{counts_on}
use Rattle.tda_out.specs.Counts.{count_at}
use Rattle.tda_places.specs.Measurements.{AreMeasurementsOf}
use Rattle.tda_measure.specs.Measured.{AreMeasured}
use Rattle.tda_measure.specs.Noise.{variances_of}
use Rattle.tda_measure.specs.Steps.{level_steps}
use Rattle.tda_measure.proofs.Outcomes.{noise_determined}
use Rattle.tda_measure.proofs.Places.{variances_positive, all_measured, all_each, all_stops}
use Rattle.tda_measure.proofs.Walking.{adds_up, adds_up_all, stops_up}
use Rattle.tda_measure.proofs.measuring.measure.Goals as goal

pub returns-in_err-sums-clause-one : goal.returns-in_err-sums-clause-one
returns-in_err-sums-clause-one g c =
    let s = c.args.schema.now in
    let sp = c.args.spine.now in
    noise_determined (variances_of s sp) (variances_positive s sp c.levels.ensures.queries)

pub returns-in_err-numbers-clause-one : goal.returns-in_err-numbers-clause-one
returns-in_err-numbers-clause-one g c =
    let s = c.args.schema.now in
    let sp = c.args.spine.now in
    noise_determined (variances_of s sp) (variances_positive s sp c.levels.ensures.queries)

pub returns-in_err-measure_level-clause-one : goal.returns-in_err-measure_level-clause-one
returns-in_err-measure_level-clause-one g c =
    let s = c.args.schema.now in
    let sp = c.args.spine.now in
    noise_determined (variances_of s sp) (variances_positive s sp c.levels.ensures.queries)

pub returns-clause-one : goal.returns-clause-one
returns-clause-one g c =
    let s = c.args.schema.now in
    let sp = c.args.spine.now in
    noise_determined (variances_of s sp) (variances_positive s sp c.levels.ensures.queries)

pub returns-in_err-measure_level-clause-err : goal.returns-in_err-measure_level-clause-err
returns-in_err-measure_level-clause-err g c =
    let s = c.args.schema.now in
    let sp = c.args.spine.now in
    let x = count_at c.args.tables.now in
    let w = g.W.Words.words c.args.w.now in
    let r = g.W.Words.words c.measure_level.new.w in
    let i = c.loop-level.level in
    let why = c.in_err-measure_level.field-0.0 in
    let below : i < length s.levels = omega (arith, c.loop-level-test.true, c.levels-level-end.ensures.count) in
    let p = err_from_is_err_and c.from_residual-in_err-measure_level.result c.from_residual-in_err-measure_level.ensures.1 in
    rw (p.1, p.2)
    (λ other. all_stops s sp x w why r
    (stops_up (level_steps s sp x) (length s.levels) w [] i c.loop-level.numbers.items (g.W.Words.words c.loop-level.w) why r below c.loop-level.invariant.adds (c.in_err-measure_level.ensures.err other)))

pub loop-level-preserved : goal.loop-level-preserved
loop-level-preserved g c =
    let s = c.args.schema.now in
    let sp = c.args.spine.now in
    let x = count_at c.args.tables.now in
    let i = c.loop-level.level in
    let below : i < length s.levels = omega (arith, c.loop-level-test.true, c.levels-level-end.ensures.count) in
    let new = c.measure_level.new.sums in
    let many : length new ≡ c.loop-level.sums.len = c.measure_level.ensures.size ∙ sym c.loop-level.invariant.size ∙ sym c.loop-level.sums.ok.0 in
    record {
      adds = adds_up (level_steps s sp x) (length s.levels) (g.W.Words.words c.args.w.now) [] i c.loop-level.numbers.items c.measure_level.new.numbers.items (g.W.Words.words c.loop-level.w) (g.W.Words.words c.measure_level.new.w) below
          c.loop-level.invariant.adds c.in_ok-measure_level.ensures.ok;
      counts = counts_on _ _ _ _ _ _ c.loop-level.invariant.counts c.measure_level.ensures.counts;
      size = ap length (with_items_is c.loop-level.sums new many) ∙ c.measure_level.ensures.size;
    }

pub from_list-requires : goal.from_list-requires
from_list-requires g c =
    let s = c.args.schema.now in
    let sp = c.args.spine.now in
    let x = count_at c.args.tables.now in
    let w = g.W.Words.words c.args.w.now in
    let r = g.W.Words.words c.loop-level.w in
    let past : length s.levels ≤ c.loop-level.level = omega (arith, c.loop-level-test.false, c.levels-level-end.ensures.count) in
    all_each s sp x w c.loop-level.numbers.items r (adds_up_all (level_steps s sp x) (length s.levels) w [] c.loop-level.level c.loop-level.numbers.items r past c.loop-level.invariant.adds)

pub returns-clause-ok : goal.returns-clause-ok
returns-clause-ok g c =
    let s = c.args.schema.now in
    let sp = c.args.spine.now in
    let x = count_at c.args.tables.now in
    let w = g.W.Words.words c.args.w.now in
    let r = g.W.Words.words c.loop-level.w in
    let past : length s.levels ≤ c.loop-level.level = omega (arith, c.loop-level-test.false, c.levels-level-end.ensures.count) in
    let measured = all_measured s sp x w c.loop-level.numbers.items r (adds_up_all (level_steps s sp x) (length s.levels) w [] c.loop-level.level c.loop-level.numbers.items r past c.loop-level.invariant.adds) in
    subst (λ m. AreMeasured s sp x w m r) (sym c.from_list.ensures) measured

pub returns-clause-each : goal.returns-clause-each
returns-clause-each g c =
    let s = c.args.schema.now in
    let sp = c.args.spine.now in
    let x = count_at c.args.tables.now in
    let w = g.W.Words.words c.args.w.now in
    let r = g.W.Words.words c.loop-level.w in
    let past : length s.levels ≤ c.loop-level.level = omega (arith, c.loop-level-test.false, c.levels-level-end.ensures.count) in
    let each = all_each s sp x w c.loop-level.numbers.items r (adds_up_all (level_steps s sp x) (length s.levels) w [] c.loop-level.level c.loop-level.numbers.items r past c.loop-level.invariant.adds) in
    subst (AreMeasurementsOf s sp) (sym c.from_list.ensures) each
