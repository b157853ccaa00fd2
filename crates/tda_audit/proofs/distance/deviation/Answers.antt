-- One unit more.
use Rattle.std.proofs.Common.{◌≡◌, ◌<◌, ◌≤◌, length, ap, ◌∙◌, subst, arith}
use Rattle.std.proofs.lemmas.List.FromFn.{length-range_with_len}
use Rattle.tda_invar.proofs.RangeLemmas.{sum_more}
use Rattle.tda_places.proofs.Nested.{range_at}
use Rattle.std.specs.List.{sum_by, range_with_len}
use Rattle.tda_model.specs.Bounds.{persons_limit}
use Rattle.tda_model.specs.Tables.{persons_in}
use Rattle.tda_model.specs.Release.{deviation_at}
use Rattle.tda_out.specs.Counts.{count_at}
use Rattle.tda_fitnet.specs.Fits.{curve_of}
use Rattle.tda_fitnet.specs.Inputs.{inputs_of}
use Rattle.tda_audit.proofs.distance.deviation.Goals as goal

pub unit_deviation-sum-requires-clause-few : goal.unit_deviation-sum-requires-clause-few
unit_deviation-sum-requires-clause-few g c =
    let n = length c.args.spine.now.units in
    let u = c.loop-unit.unit in
    let below : u < n = omega (arith, c.loop-unit-test.true, c.units-unit-end.ensures.count) in
    subst (λ v. persons_in c.args.schema.now (count_at c.args.tables.now v) ≤ persons_limit) (range_at n u 0 below) (c.requires.few u 0 (omega (arith, length-range_with_len 0 n)))

pub loop-unit-preserved : goal.loop-unit-preserved
loop-unit-preserved g c = record {
  size = c.unit_deviation-sum.ensures.size;
  sum_is = λ inv.
      sum_more (λ u. deviation_at (curve_of c.args.loss.now.curve) (inputs_of c.args.schema.now c.args.spine.now inv c.args.m.now) u (count_at c.args.tables.now u)) c.loop-unit.unit c.loop-unit.sum
      c.unit_deviation-sum.result (c.loop-unit.invariant.sum_is inv) (c.unit_deviation-sum.ensures.value inv);
  small = omega (arith, c.loop-unit.invariant.small, c.unit_deviation-sum.ensures.limit);
}

pub returns : goal.returns
returns g c = λ inv.
    let all : c.loop-unit.unit ≡ length c.args.spine.now.units = omega (arith, c.loop-unit-test.false, c.loop-unit.auto.unit-end, c.units-unit-end.ensures.count) in
    c.loop-unit.invariant.sum_is inv
    ∙ ap (λ n. sum_by (λ u. deviation_at (curve_of c.args.loss.now.curve) (inputs_of c.args.schema.now c.args.spine.now inv c.args.m.now) u (count_at c.args.tables.now u)) (range_with_len 0 n)) all
