use Rattle.std.proofs.Common.{◌≡◌, ◌++◌, ◌∙◌, None, ap, sym, subst, arith, length}
use Rattle.std.specs.Prelude.{OnOk}
use Rattle.std.proofs.lemmas.Result.{on_ok_weaker}
use Rattle.tda_model.specs.Sizes.{groups_at}
use Rattle.tda_model.specs.Spine.{level_of, nation_of}
use Rattle.tda_prices.specs.Parts.{group_rows, kind_rows, numbered_text, state_rows}
use Rattle.tda_prices.proofs.Counts.{root_count}
use Rattle.tda_prices.proofs.PartRows.{kinds_long, root_rows, states_long}
use Rattle.tda_prices.proofs.Writing.{two_parts}
use Rattle.tda_prices.proofs.writer.push_root.Goals as goal

pub split_at-requires-2 : goal.split_at-requires-2
split_at-requires-2 c =
    let s = c.args.schema.now in
    let sp = c.args.spine.now in
    let count = root_count s sp c.units.ensures.sound.tree in
    let states = ap length c.at_level.ensures in
    omega (arith, count, states, c.requires.count, c.kinds.ensures.count, c.split_at.ensures.back_len)

pub push_groups-requires-clause-count : goal.push_groups-requires-clause-count
push_groups-requires-clause-count c =
    let s = c.args.schema.now in
    let sp = c.args.spine.now in
    let count = root_count s sp c.units.ensures.sound.tree in
    let states = ap length c.at_level.ensures in
    let root : groups_at s (level_of sp c.nation.result) ≡ groups_at s 0 = ap (λ u. groups_at s (level_of sp u)) c.nation.ensures.nation ∙ ap (groups_at s) c.units.ensures.sound.tree.root_level in
    omega (arith, count, states, c.requires.count, c.kinds.ensures.count, c.split_at.ensures.back_len, c.split_at-2.ensures.back_len) ∙ sym root

pub returns-clause-ok : goal.returns-clause-ok
returns-clause-ok c =
    let s = c.args.schema.now in
    let sp = c.args.spine.now in
    let count = root_count s sp c.units.ensures.sound.tree in
    let states = ap length c.at_level.ensures in
    let nation = nation_of sp in
    let others = c.split_at.result.1.now in
    let last_ok = subst (λ u. OnOk c.push_groups.result (c.push_groups.new.out.items ≡ c.push_kinds.new.out.items ++ numbered_text (group_rows s sp None u) c.split_at-2.result.1.now)) c.nation.ensures.nation c.push_groups.ensures.ok in
    on_ok_weaker c.push_groups.result
    (λ last.
    let behind = two_parts (kind_rows s sp) (group_rows s sp None nation) others c.kinds.result c.split_at-2.result.0.now c.split_at-2.result.1.now c.split_at-2.ensures.front c.split_at-2.ensures.back
    (kinds_long s sp ∙ omega (arith, count, states, c.requires.count, c.kinds.ensures.count, c.split_at.ensures.back_len, c.split_at-2.ensures.front_len)) c.push_states.new.out.items c.push_kinds.new.out.items c.push_groups.new.out.items c.in_ok-push_kinds.ensures.ok last in
    two_parts (state_rows sp) (kind_rows s sp ++ group_rows s sp None nation) c.args.prices.now (length c.at_level.result.now) c.split_at.result.0.now others c.split_at.ensures.front c.split_at.ensures.back
    (states_long sp ∙ omega (arith, states, c.split_at.ensures.front_len, count, c.requires.count)) c.args.out.now.items c.push_states.new.out.items c.push_groups.new.out.items c.in_ok-push_states.ensures.ok behind
    ∙ ap (λ rows. c.args.out.now.items ++ numbered_text rows c.args.prices.now) (sym (root_rows s sp)))
    last_ok
