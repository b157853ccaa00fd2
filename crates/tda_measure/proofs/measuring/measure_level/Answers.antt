use Rattle.std.proofs.Common.{◌<◌, ℕ, List, length, get_or, ap, sym, subst, arith}
use Rattle.std.specs.List.{flat_map}
use Rattle.std.proofs.lemmas.Result.{err_from_is_err_and}
use Rattle.tda_model.specs.Spine.{units_at}
use Rattle.tda_noise.proofs.Counted.{counts_on}
use Rattle.tda_out.specs.Counts.{count_at}
use Rattle.tda_measure.specs.Steps.{Step, unit_steps, HasCounts}
use Rattle.tda_measure.proofs.Places.{unit_counts}
use Rattle.tda_measure.proofs.Walking.{adds_next, stops_next, stops_same}
use Rattle.tda_measure.proofs.measuring.measure_level.Goals as goal

pub measure_unit-requires-clause-counts : goal.measure_unit-requires-clause-counts
measure_unit-requires-clause-counts g c =
    let s = c.args.schema.now in
    let sp = c.args.spine.now in
    let i = c.loop-unit.unit-index in
    let same = c.at_level-unit-items.ensures in
    let many = ap length same in
    let below : i < length (units_at sp c.args.level) = omega (arith, many, c.loop-unit-test.true) in
    subst (λ us. HasCounts s c.args.tables.now (get_or us i 0)) (sym same) (unit_counts s sp c.args.tables.now c.requires.tables c.requires.few c.args.level i 0 below)

pub returns-in_err-measure_unit-clause-err : goal.returns-in_err-measure_unit-clause-err
returns-in_err-measure_unit-clause-err g c =
    let x = count_at c.args.tables.now in
    let f : ℕ → List Step = λ u. unit_steps c.args.schema.now c.args.level (x u) in
    let xs = c.at_level-unit-items.result.now in
    let w = g.W.Words.words c.args.w.now in
    let r = g.W.Words.words c.measure_unit.new.w in
    let a = c.args.numbers.now.items in
    let why = c.in_err-measure_unit.field-0.0 in
    let p = err_from_is_err_and c.from_residual.result c.from_residual.ensures.1 in
    rw (p.1, p.2)
    (λ other. stops_same _ _ w a why r (ap (flat_map f) c.at_level-unit-items.ensures)
    (stops_next f xs w a c.loop-unit.unit-index 0 c.loop-unit.numbers.items (g.W.Words.words c.loop-unit.w) why r c.loop-unit-test.true c.loop-unit.invariant.adds (c.in_err-measure_unit.ensures.err other)))

pub loop-unit-preserved : goal.loop-unit-preserved
loop-unit-preserved g c =
    let x = count_at c.args.tables.now in
    let f : ℕ → List Step = λ u. unit_steps c.args.schema.now c.args.level (x u) in
    record {
      adds = adds_next f c.at_level-unit-items.result.now (g.W.Words.words c.args.w.now) c.args.numbers.now.items c.loop-unit.unit-index 0 c.loop-unit.numbers.items c.measure_unit.new.numbers.items (g.W.Words.words c.loop-unit.w) (g.W.Words.words c.measure_unit.new.w)
          c.loop-unit-test.true c.loop-unit.invariant.adds c.in_ok-measure_unit.ensures.ok;
      counts = counts_on _ _ _ _ _ _ c.loop-unit.invariant.counts c.measure_unit.ensures.counts;
      size = c.measure_unit.ensures.size;
    }
