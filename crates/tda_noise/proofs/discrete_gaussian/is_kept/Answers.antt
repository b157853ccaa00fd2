use Rattle.std.proofs.Common.{◌*◌, ◌∙◌, arith, ap, sym, nat_abs}
use Rattle.tda_noise.proofs.Scales.{denominator_is, denominator_few, denominator_some, distance_is, square_few, square_is, exponent_is}
use Rattle.tda_noise.proofs.Signs.{size_is}
use Rattle.tda_noise.proofs.GaussianDraws.{answers_at}
use Rattle.tda_noise.proofs.discrete_gaussian.is_kept.Goals as goal

pub overflow_mul-distance : goal.overflow_mul-distance
overflow_mul-distance g c =
    let size = size_is c.args.number _ _ c.ranges.number c.from.ensures c.unsigned_abs.ensures.value in
    let d = distance_is _ _ _ _ _ _ c.args.t c.args.b c.args.a c.abs_diff-distance.ensures size c.from-t.ensures c.from-b.ensures c.from-a.ensures in
    let r = c.requires in
    let h = square_few c.args.a c.args.b c.args.t r.numerator_limit r.denominator_limit r.scale (nat_abs c.args.number) _ r.magnitude d in
    omega arith

pub exp_coin-requires-clause-numerator : goal.exp_coin-requires-clause-numerator
exp_coin-requires-clause-numerator g c =
    let size = size_is c.args.number _ _ c.ranges.number c.from.ensures c.unsigned_abs.ensures.value in
    let d = distance_is _ _ _ _ _ _ c.args.t c.args.b c.args.a c.abs_diff-distance.ensures size c.from-t.ensures c.from-b.ensures c.from-a.ensures in
    let r = c.requires in
    let h = square_few c.args.a c.args.b c.args.t r.numerator_limit r.denominator_limit r.scale (nat_abs c.args.number) _ r.magnitude d in
    omega arith

pub overflow_mul-a-3 : goal.overflow_mul-a-3
overflow_mul-a-3 g c =
    let r = c.requires in
    let e = denominator_is _ _ _ c.args.a c.args.b c.args.t c.from-a.ensures c.from-b.ensures c.from-t.ensures in
    let h = denominator_few c.args.a c.args.b c.args.t r.numerator_limit r.denominator_limit r.scale in
    omega arith

pub exp_coin-requires-clause-some : goal.exp_coin-requires-clause-some
exp_coin-requires-clause-some g c =
    let r = c.requires in
    let e = denominator_is _ _ _ c.args.a c.args.b c.args.t c.from-a.ensures c.from-b.ensures c.from-t.ensures in
    let h = denominator_some c.args.a c.args.b c.args.t r.numerator r.denominator r.scale.some in
    omega arith

pub exp_coin-requires-clause-limit : goal.exp_coin-requires-clause-limit
exp_coin-requires-clause-limit g c =
    let r = c.requires in
    let e = denominator_is _ _ _ c.args.a c.args.b c.args.t c.from-a.ensures c.from-b.ensures c.from-t.ensures in
    let h = denominator_few c.args.a c.args.b c.args.t r.numerator_limit r.denominator_limit r.scale in
    omega arith

pub returns-clause-drawn : goal.returns-clause-drawn
returns-clause-drawn g c =
    let size = size_is c.args.number _ _ c.ranges.number c.from.ensures c.unsigned_abs.ensures.value in
    let d = distance_is _ _ _ _ _ _ c.args.t c.args.b c.args.a c.abs_diff-distance.ensures size c.from-t.ensures c.from-b.ensures c.from-a.ensures in
    let exponent = exponent_is _ (nat_abs c.args.number) c.args.t c.args.b c.args.a d in
    let e = denominator_is _ _ _ c.args.a c.args.b c.args.t c.from-a.ensures c.from-b.ensures c.from-t.ensures in
    let f = e ∙ ap (λ x. 2 * c.args.a * c.args.b * x) (sym (square_is c.args.t)) in
    answers_at _ _ _ _ exponent f c.exp_coin.result _ _ c.exp_coin.ensures.drawn
