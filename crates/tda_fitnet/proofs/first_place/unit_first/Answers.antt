-- The unit among those of its level, and the places before it.
use Rattle.std.proofs.Common.{◌≡◌, ◌≤◌, ◌<◌, ◌*◌, ◌+◌, ◌^◌, ℕ, List, arith, length, slice_index, sym, ap, ◌∙◌}
use Rattle.tda_model.specs.Sizes.{places_at}
use Rattle.tda_model.specs.Spine.{Spine, is_at, units_at, level_of}
use Rattle.tda_spine.proofs.Numbers.{length-kept-le}
use Rattle.tda_spine.specs.Sound.{IsSound}
use Rattle.tda_places.specs.Spots.{before_level}
use Rattle.tda_places.proofs.Indexes.{unit_among}
use Rattle.tda_places.proofs.Rising.{units_rise}
use Rattle.tda_places.proofs.Sizes.{few_product}
use Rattle.tda_fitnet.proofs.first_place.unit_first.Goals as goal

few : (sp : Spine) → IsSound sp → (level unit places : ℕ) → unit < length (units_at sp level) → places ≤ 2 ^ 15 → unit * places ≤ 2 ^ 32
few sp sound level unit places below within =
    let units : unit ≤ 2 ^ 17 = omega (arith, length-kept-le (is_at sp level) (length sp.units), sound.few, below) in
    omega (arith, few_product unit places (2 ^ 17) (2 ^ 15) units within)

pub find-number-requires-clause-rise : goal.find-number-requires-clause-rise
find-number-requires-clause-rise c = rw c.at_level.ensures (units_rise c.args.spine.now c.level-level.result)

pub find-number-requires-clause-there : goal.find-number-requires-clause-there
find-number-requires-clause-there c = rw (c.at_level.ensures, c.level-level.ensures) (unit_among c.args.spine.now c.args.unit c.requires.unit)

-- how many places the earlier units of the level have
before : (sp : Spine) → IsSound sp → (level : ℕ) (list : List ℕ) → list ≡ units_at sp level → (unit places : ℕ) → unit < length list → places ≤ 2 ^ 15 → unit * places ≤ 2 ^ 32
before sp sound level list is unit places below within = few sp sound level unit places (omega (arith, ap length is)) within

pub overflow_mul-result : goal.overflow_mul-result
overflow_mul-result c =
    let product = before c.args.spine.now c.units.ensures.sound c.level-level.result _ c.at_level.ensures c.find-number.result c.unit_size.result c.find-number.ensures.within c.unit_size.ensures.few in
    omega arith

pub overflow_add-result : goal.overflow_add-result
overflow_add-result c =
    let product = before c.args.spine.now c.units.ensures.sound c.level-level.result _ c.at_level.ensures c.find-number.result c.unit_size.result c.find-number.ensures.within c.unit_size.ensures.few in
    omega (arith, product, c.requires.few)

pub returns : goal.returns
returns c =
    let sp = c.args.spine.now in
    let u = c.find-number.result in
    let product = before sp c.units.ensures.sound c.level-level.result _ c.at_level.ensures u c.unit_size.result c.find-number.ensures.within c.unit_size.ensures.few in
    let units = c.at_level.ensures ∙ ap (units_at sp) c.level-level.ensures in
    let size = c.unit_size.ensures.size ∙ ap (places_at c.args.schema.now) c.level-level.ensures in
    record {
      number = u;
      here = omega (arith, c.find-number.ensures.within, ap length units);
      unit_is = sym (ap (λ xs. slice_index xs u) units) ∙ c.find-number.ensures.is;
      first_is = ap (λ n. n + u * c.unit_size.result) c.requires.level ∙ ap (λ n. before_level c.args.schema.now sp (level_of sp c.args.unit) + u * n) size;
      limit = omega (arith, product, c.requires.few);
    }
