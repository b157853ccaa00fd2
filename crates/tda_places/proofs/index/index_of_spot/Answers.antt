use Rattle.std.proofs.Common.{◌≤◌, ◌*◌, ◌+◌, ◌^◌, ℕ, arith, length}
use Rattle.tda_spine.proofs.Numbers.{length-kept-le}
use Rattle.tda_spine.specs.Sound.{IsSound}
use Rattle.tda_model.specs.Spine.{Spine, is_at, units_at}
use Rattle.std.proofs.Common.{◌<◌}
use Rattle.tda_schema.specs.Stated.{query_at}
use Rattle.tda_places.proofs.Sizes.{few_classes, few_product}
use Rattle.tda_places.proofs.index.index_of_spot.Goals as goal

few : (sp : Spine) → IsSound sp → (level unit places : ℕ) → unit < length (units_at sp level) → places ≤ 2 ^ 15 → unit * places ≤ 2 ^ 32
few sp sound level unit places below within =
    let units : unit ≤ 2 ^ 17 = omega (arith, length-kept-le (is_at sp level) (length sp.units), sound.few, below) in
    omega (arith, few_product unit places (2 ^ 17) (2 ^ 15) units within)

pub overflow_mul-result : goal.overflow_mul-result
overflow_mul-result c =
    let product = few c.args.spine.now c.units.ensures.sound c.args.spot.level c.args.spot.unit c.unit_count.result c.requires.unit c.unit_count.ensures.few in
    omega arith

pub overflow_add-result : goal.overflow_add-result
overflow_add-result c =
    let product = few c.args.spine.now c.units.ensures.sound c.args.spot.level c.args.spot.unit c.unit_count.result c.requires.unit c.unit_count.ensures.few in
    omega (arith, product, c.before_level.ensures.few)

pub overflow_add-result-2 : goal.overflow_add-result-2
overflow_add-result-2 c =
    let product = few c.args.spine.now c.units.ensures.sound c.args.spot.level c.args.spot.unit c.unit_count.result c.requires.unit c.unit_count.ensures.few in
    omega (arith, product, c.before_level.ensures.few, c.before_query.ensures.few)

pub overflow_add-result-3 : goal.overflow_add-result-3
overflow_add-result-3 c =
    let product = few c.args.spine.now c.units.ensures.sound c.args.spot.level c.args.spot.unit c.unit_count.result c.requires.unit c.unit_count.ensures.few in
    let classes = few_classes c.args.schema.now (query_at c.args.schema.now c.args.spot.level c.args.spot.query) in
    omega (arith, product, c.before_level.ensures.few, c.before_query.ensures.few, c.requires.class, classes, c.cells.ensures.limits.cells)
