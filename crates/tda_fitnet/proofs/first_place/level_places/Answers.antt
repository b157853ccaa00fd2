use Rattle.std.proofs.Common.{◌≤◌, ◌^◌, arith, length}
use Rattle.tda_spine.proofs.Numbers.{length-kept-le}
use Rattle.tda_model.specs.Spine.{is_at}
use Rattle.tda_places.proofs.Sizes.{few_product}
use Rattle.tda_fitnet.proofs.first_place.level_places.Goals as goal

few : goal.returns-clause-few
few c =
    let sp = c.args.spine.now in
    let units : length c.at_level.result.now ≤ 2 ^ 17 = rw c.at_level.ensures (omega (arith, length-kept-le (is_at sp c.args.level) (length sp.units), c.units.ensures.sound.few)) in
    omega (arith, few_product (length c.at_level.result.now) c.unit_size.result (2 ^ 17) (2 ^ 15) units c.unit_size.ensures.few)

pub overflow_mul-result : goal.overflow_mul-result
overflow_mul-result c = omega (arith, few c)

pub returns-clause-few : goal.returns-clause-few
returns-clause-few c = few c
