use Rattle.std.proofs.Common.{◌≡◌, ◌≤◌, ◌+◌, ◌*◌, ◌^◌, ◌∙◌, ap, sym, arith, length}
use Rattle.std.proofs.Math.Nat.{mul-le-mul}
use Rattle.tda_model.specs.Cells.{possible_cells}
use Rattle.tda_model.specs.Sizes.{groups_at}
use Rattle.tda_model.specs.Spine.{is_child, level_of}
use Rattle.tda_spine.specs.Sound.{IsInner}
use Rattle.tda_spine.proofs.Numbers.{length-kept-le}
use Rattle.tda_prices.specs.Items as items
use Rattle.tda_prices.proofs.Counts.{root_count, split_count}
use Rattle.tda_prices.proofs.count.price_count.Goals as goal

few : goal.overflow_mul-result
few c =
    let sp = c.args.spine.now in
    let children : length c.children.result.now ≤ 2 ^ 17 = omega (arith, ap length c.children.ensures, length-kept-le (is_child sp c.in-Some.parent) (length sp.units), c.units.ensures.sound.few) in
    let groups : c.from-in-Some.result ≤ 2 ^ 32 = omega arith in
    omega (arith, mul-le-mul children groups)

pub overflow_add-level : goal.overflow_add-level
overflow_add-level c =
    let inner : IsInner c.args.spine.now c.in-Some.parent = rw c.in-Some.is at c.requires.fit in
    omega (arith, c.level.ensures, inner.above, c.units.ensures.sound.shallow)

pub overflow_mul-result : goal.overflow_mul-result
overflow_mul-result c = few c

pub overflow_add-result-in-Some : goal.overflow_add-result-in-Some
overflow_add-result-in-Some c =
    let sp = c.args.spine.now in
    let children : length c.children.result.now ≤ 2 ^ 17 = omega (arith, ap length c.children.ensures, length-kept-le (is_child sp c.in-Some.parent) (length sp.units), c.units.ensures.sound.few) in
    let groups : c.from-in-Some.result ≤ 2 ^ 32 = omega arith in
    omega (arith, mul-le-mul children groups, c.count_possible.ensures.few)

pub returns-in-None : goal.returns-in-None
returns-in-None c =
    let s = c.args.schema.now in
    let sp = c.args.spine.now in
    omega (arith, ap length c.at_level.ensures, c.kinds.ensures.count, c.from.ensures, c.groups.ensures.count, c.from-in-None.ensures, root_count s sp c.units.ensures.sound.tree)
    ∙ ap (items.price_count s sp) (sym c.in-None.is)

pub returns-in-Some : goal.returns-in-Some
returns-in-Some c =
    let s = c.args.schema.now in
    let sp = c.args.spine.now in
    let p = c.in-Some.parent in
    let groups : c.from-in-Some.result ≡ groups_at s (level_of sp p + 1) = c.from-in-Some.ensures ∙ c.groups-groups.ensures.count ∙ ap (λ l. groups_at s (l + 1)) c.level.ensures in
    ap (λ n. n + length c.children.result.now * c.from-in-Some.result) c.count_possible.ensures.count
    ∙ ap (λ n. length (possible_cells s) + length c.children.result.now * n) groups
    ∙ ap (λ n. length (possible_cells s) + n * groups_at s (level_of sp p + 1)) (ap length c.children.ensures)
    ∙ sym (split_count s sp c.units.ensures.sound.tree p) ∙ ap (items.price_count s sp) (sym c.in-Some.is)
