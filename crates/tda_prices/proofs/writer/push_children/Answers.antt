use Rattle.std.proofs.Common.{◌≡◌, ◌<◌, ◌+◌, ◌-◌, ◌*◌, ◌++◌, ◌∙◌, All, Some, ap, sym, subst, arith, length, get_or, drop}
use Rattle.std.specs.List.{between, flat_map}
use Rattle.std.proofs.lemmas.List.{drop_more}
use Rattle.tda_model.specs.Sizes.{groups_at}
use Rattle.tda_model.specs.Spine.{IsUnit, level_of, children_of}
use Rattle.tda_prices.specs.Parts.{group_rows, child_rows}
use Rattle.tda_prices.proofs.Counts.{children_units}
use Rattle.tda_prices.proofs.Writing.{write_part}
use Rattle.std.proofs.lemmas.List.Edits.{length-between}
use Rattle.tda_out.proofs.WrittenRows.{part_fits}
use Rattle.tda_prices.proofs.Counts.{children_levels}
use Rattle.tda_prices.proofs.PartRows.{rows_long}
use Rattle.tda_prices.proofs.Writing.{next_part}
use Rattle.tda_prices.proofs.writer.push_children.Goals as goal

pub push_groups-requires-clause-unit : goal.push_groups-requires-clause-unit
push_groups-requires-clause-unit c =
    let sp = c.args.spine.now in
    subst (All (IsUnit sp)) (sym c.children-child-items.ensures) (children_units sp c.units.ensures.sound.tree c.args.parent) c.loop-index.index 0 (omega (arith, c.loop-index-test.true))

pub push_groups-requires-clause-count : goal.push_groups-requires-clause-count
push_groups-requires-clause-count c =
    let s = c.args.schema.now in
    let sp = c.args.spine.now in
    let p = c.args.parent in
    let items = c.children-child-items.result.now in
    let k = c.loop-index.index in
    let g = c.args.groups in
    let below : k < length items = omega (arith, c.loop-index-test.true) in
    let fits = part_fits g (groups_at s (level_of sp p + 1)) k (length (children_of sp p)) (length c.args.prices.now) c.requires.groups (c.requires.count ∙ ap (λ n. length (children_of sp p) * n) c.requires.groups) (omega (arith, below, ap length c.children-child-items.ensures)) in
    let level : level_of sp (get_or items k 0) ≡ level_of sp p + 1 =
    subst (All (λ u. level_of sp u ≡ level_of sp p + 1)) (sym c.children-child-items.ensures) (children_levels sp c.units.ensures.sound.tree p) k 0 below in
    let own = between (k * g) (k * g + g) c.args.prices.now in
    let long : length own ≡ groups_at s (level_of sp (get_or items k 0)) =
    length-between c.args.prices.now (k * g) (k * g + g) fits ∙ (let e : k * g + g - k * g ≡ g = omega arith in e) ∙ c.requires.groups ∙ ap (groups_at s) (sym level) in
    long

pub loop-index-preserved : goal.loop-index-preserved
loop-index-preserved c =
    let s = c.args.schema.now in
    let sp = c.args.spine.now in
    let p = c.args.parent in
    let items = c.children-child-items.result.now in
    let k = c.loop-index.index in
    let g = c.args.groups in
    let below : k < length items = omega (arith, c.loop-index-test.true) in
    let fits = part_fits g (groups_at s (level_of sp p + 1)) k (length (children_of sp p)) (length c.args.prices.now) c.requires.groups (c.requires.count ∙ ap (λ n. length (children_of sp p) * n) c.requires.groups) (omega (arith, below, ap length c.children-child-items.ensures)) in
    let level : level_of sp (get_or items k 0) ≡ level_of sp p + 1 =
    subst (All (λ u. level_of sp u ≡ level_of sp p + 1)) (sym c.children-child-items.ensures) (children_levels sp c.units.ensures.sound.tree p) k 0 below in
    let own = between (k * g) (k * g + g) c.args.prices.now in
    let long : length own ≡ groups_at s (level_of sp (get_or items k 0)) =
    length-between c.args.prices.now (k * g) (k * g + g) fits ∙ (let e : k * g + g - k * g ≡ g = omega arith in e) ∙ c.requires.groups ∙ ap (groups_at s) (sym level) in
    let f = group_rows s sp (Some p) in
    let xs = children_of sp p in
    let child : get_or xs k 0 ≡ get_or items k 0 = ap (λ us. get_or us k 0) (sym c.children-child-items.ensures) in
    write_part (child_rows s sp p) c.args.prices.now c.args.out.now.items c.loop-index.out.items (flat_map f (drop k xs)) (f (get_or items k 0)) (flat_map f (drop (k + 1) xs)) (drop (k * g) c.args.prices.now) own (drop ((k + 1) * g) c.args.prices.now)
    (ap (flat_map f) (drop_more xs k 0 (omega (arith, below, ap length c.children-child-items.ensures))) ∙ ap (λ u. f u ++ flat_map f (drop (k + 1) xs)) child)
    (next_part c.args.prices.now k g) (rows_long s sp (Some p) (get_or items k 0) ∙ sym long) c.loop-index.invariant c.push_groups.new.out.items c.in_ok-push_groups.ensures.ok
