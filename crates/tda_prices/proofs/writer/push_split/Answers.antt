use Rattle.std.proofs.Common.{◌≡◌, ◌≤◌, ◌+◌, ◌-◌, ◌*◌, ◌^◌, ◌++◌, ◌∙◌, ap, sym, arith, length}
use Rattle.std.proofs.Math.Nat.{mul-le-mul}
use Rattle.std.proofs.lemmas.Result.{on_ok_weaker}
use Rattle.tda_model.specs.Sizes.{groups_at}
use Rattle.tda_model.specs.Spine.{children_of, is_child, level_of}
use Rattle.tda_spine.proofs.Numbers.{length-kept-le}
use Rattle.tda_prices.specs.Parts.{cell_rows, child_rows, numbered_text}
use Rattle.tda_prices.proofs.Counts.{split_count}
use Rattle.tda_prices.proofs.PartRows.{cells_long, split_rows}
use Rattle.tda_prices.proofs.Writing.{two_parts}
use Rattle.tda_prices.proofs.writer.push_split.Goals as goal

pub overflow_mul-cells : goal.overflow_mul-cells
overflow_mul-cells c =
    let sp = c.args.spine.now in
    let children : length c.children.result.now ≤ 2 ^ 17 = omega (arith, ap length c.children.ensures, length-kept-le (is_child sp c.args.parent) (length sp.units), c.units-groups.ensures.sound.few) in
    let groups : c.groups-groups.result ≤ 2 ^ 32 = omega arith in
    omega (arith, mul-le-mul children groups)

pub overflow_sub-cells : goal.overflow_sub-cells
overflow_sub-cells c =
    let s = c.args.schema.now in
    let sp = c.args.spine.now in
    let p = c.args.parent in
    let count = split_count s sp c.units-groups.ensures.sound.tree p in
    let many : c.groups-groups.result ≡ groups_at s (level_of sp p + 1) = c.groups-groups.ensures.count ∙ ap (λ l. groups_at s (l + 1)) c.level.ensures in
    let prod : length c.children.result.now * c.groups-groups.result ≡ length (children_of sp p) * groups_at s (level_of sp p + 1) =
    ap (λ n. n * c.groups-groups.result) (ap length c.children.ensures) ∙ ap (λ m. length (children_of sp p) * m) many in
    omega (arith, count, prod, c.requires.count)

pub push_cells-requires-clause-count : goal.push_cells-requires-clause-count
push_cells-requires-clause-count c =
    let s = c.args.schema.now in
    let sp = c.args.spine.now in
    let p = c.args.parent in
    let count = split_count s sp c.units-groups.ensures.sound.tree p in
    let many : c.groups-groups.result ≡ groups_at s (level_of sp p + 1) = c.groups-groups.ensures.count ∙ ap (λ l. groups_at s (l + 1)) c.level.ensures in
    let prod : length c.children.result.now * c.groups-groups.result ≡ length (children_of sp p) * groups_at s (level_of sp p + 1) =
    ap (λ n. n * c.groups-groups.result) (ap length c.children.ensures) ∙ ap (λ m. length (children_of sp p) * m) many in
    omega (arith, count, prod, c.requires.count, c.split_at.ensures.front_len)

pub push_children-requires-clause-count : goal.push_children-requires-clause-count
push_children-requires-clause-count c =
    let s = c.args.schema.now in
    let sp = c.args.spine.now in
    let p = c.args.parent in
    let count = split_count s sp c.units-groups.ensures.sound.tree p in
    let many : c.groups-groups.result ≡ groups_at s (level_of sp p + 1) = c.groups-groups.ensures.count ∙ ap (λ l. groups_at s (l + 1)) c.level.ensures in
    let prod : length c.children.result.now * c.groups-groups.result ≡ length (children_of sp p) * groups_at s (level_of sp p + 1) =
    ap (λ n. n * c.groups-groups.result) (ap length c.children.ensures) ∙ ap (λ m. length (children_of sp p) * m) many in
    omega (arith, count, prod, ap (λ n. n * c.groups-groups.result) (ap length c.children.ensures), c.requires.count, c.split_at.ensures.back_len)

pub returns-clause-ok : goal.returns-clause-ok
returns-clause-ok c =
    let s = c.args.schema.now in
    let sp = c.args.spine.now in
    let p = c.args.parent in
    let count = split_count s sp c.units-groups.ensures.sound.tree p in
    let many : c.groups-groups.result ≡ groups_at s (level_of sp p + 1) = c.groups-groups.ensures.count ∙ ap (λ l. groups_at s (l + 1)) c.level.ensures in
    let prod : length c.children.result.now * c.groups-groups.result ≡ length (children_of sp p) * groups_at s (level_of sp p + 1) =
    ap (λ n. n * c.groups-groups.result) (ap length c.children.ensures) ∙ ap (λ m. length (children_of sp p) * m) many in
    let mid = length c.args.prices.now - length c.children.result.now * c.groups-groups.result in
    on_ok_weaker c.push_children.result
    (λ last. two_parts (cell_rows s sp p) (child_rows s sp p) c.args.prices.now mid c.split_at.result.0.now c.split_at.result.1.now c.split_at.ensures.front c.split_at.ensures.back
    (cells_long s sp p ∙ omega (arith, count, prod, c.requires.count, c.split_at.ensures.front_len)) c.args.out.now.items c.push_cells.new.out.items c.push_children.new.out.items c.in_ok-push_cells.ensures.ok last
    ∙ ap (λ rows. c.args.out.now.items ++ numbered_text rows c.args.prices.now) (sym (split_rows s sp p)))
    c.push_children.ensures.ok
