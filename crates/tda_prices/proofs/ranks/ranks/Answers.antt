use Rattle.std.proofs.Common.{◌≡◌, ◌<◌, ◌+◌, ◌∙◌, All, ap, sym, subst, arith, length, length-append, drop, get_or}
use Rattle.std.specs.List.{flat_map}
use Rattle.tda_model.specs.Spine.{children_of}
use Rattle.tda_spine.proofs.Fits.{inner_at}
use Rattle.tda_prices.specs.Ranks.{ranked}
use Rattle.tda_prices.proofs.PartRows.{none_left}
use Rattle.tda_prices.proofs.Ranked.{are_ranks, children_here, children_next, order_short, ranked_long, ranked_more, written_back}
use Rattle.tda_prices.proofs.ranks.ranks.Goals as goal

pub children-children-requires : goal.children-children-requires
children-children-requires c =
    (inner_at c.args.spine.now c.units.ensures.sound.tree c.parents-parent-items.result.now c.parents-parent-items.ensures.value c.loop-parent.parent-index (omega (arith, c.loop-parent-test.true))).here

pub rank_all-requires-clause-units : goal.rank_all-requires-clause-units
rank_all-requires-clause-units c =
    let sp = c.args.spine.now in
    let p = get_or c.parents-parent-items.result.now c.loop-parent.parent-index 0 in
    subst (All (λ u. u < length c.deref_mut.result.now)) (sym c.children-children.ensures)
    (λ k d below. let here = children_here sp c.units.ensures.sound p k d below in omega (arith, here, c.deref_mut.ensures.len, c.loop-parent.ranks.ok.0, c.loop-parent.invariant.size))

pub rank_all-requires-clause-room : goal.rank_all-requires-clause-room
rank_all-requires-clause-room c =
    let sp = c.args.spine.now in
    let items = c.parents-parent-items.result.now in
    let k = c.loop-parent.parent-index in
    let next = ap length (children_next sp c.units.ensures.sound items k (omega (arith, c.loop-parent-test.true))) in
    let sum = length-append (children_of sp (get_or items k 0)) (flat_map (children_of sp) (drop (k + 1) items)) in
    let few = c.units.ensures.sound.few in
    omega (arith, next, sum, ap length c.children-children.ensures, c.loop-parent.invariant.room, order_short sp c.units.ensures.sound, few)

pub overflow_cast-next : goal.overflow_cast-next
overflow_cast-next c =
    let sp = c.args.spine.now in
    let items = c.parents-parent-items.result.now in
    let k = c.loop-parent.parent-index in
    let next = ap length (children_next sp c.units.ensures.sound items k (omega (arith, c.loop-parent-test.true))) in
    let sum = length-append (children_of sp (get_or items k 0)) (flat_map (children_of sp) (drop (k + 1) items)) in
    let few = c.units.ensures.sound.few in
    omega (arith, next, sum, ap length c.children-children.ensures, c.loop-parent.invariant.room, order_short sp c.units.ensures.sound, few)

pub overflow_add-next-in-loop-parent : goal.overflow_add-next-in-loop-parent
overflow_add-next-in-loop-parent c =
    let sp = c.args.spine.now in
    let items = c.parents-parent-items.result.now in
    let k = c.loop-parent.parent-index in
    let next = ap length (children_next sp c.units.ensures.sound items k (omega (arith, c.loop-parent-test.true))) in
    let sum = length-append (children_of sp (get_or items k 0)) (flat_map (children_of sp) (drop (k + 1) items)) in
    let few = c.units.ensures.sound.few in
    omega (arith, next, sum, ap length c.children-children.ensures, c.loop-parent.invariant.room, order_short sp c.units.ensures.sound, few)

pub loop-parent-preserved : goal.loop-parent-preserved
loop-parent-preserved c =
    let sp = c.args.spine.now in
    let items = c.parents-parent-items.result.now in
    let k = c.loop-parent.parent-index in
    let below : k < length items = omega (arith, c.loop-parent-test.true) in
    let p = get_or items k 0 in
    let next = ap length (children_next sp c.units.ensures.sound items k below) in
    let sum = length-append (children_of sp p) (flat_map (children_of sp) (drop (k + 1) items)) in
    let old = c.loop-parent.ranks.items in
    let long : length c.rank_all.new.ranks ≡ length c.deref_mut.result.now = ap length c.rank_all.ensures ∙ ranked_long c.deref_mut.result.now c.children-children.result.now c.loop-parent.next in
    let back = written_back c.rank_all.new.ranks old c.loop-parent.ranks.len (omega (arith, long, c.deref_mut.ensures.len, c.loop-parent.ranks.ok.0)) (omega (arith, c.loop-parent.ranks.ok.0)) in
    let more = ranked_more sp c.units.ensures.sound _ old c.loop-parent.next k items below c.loop-parent.invariant.whole in
    let new : c.rank_all.new.ranks ≡ ranked old (children_of sp p) c.loop-parent.next =
    c.rank_all.ensures ∙ ap (λ rs. ranked rs c.children-children.result.now c.loop-parent.next) c.deref_mut.ensures.value ∙ ap (λ us. ranked old us c.loop-parent.next) c.children-children.ensures in
    record {
      whole = more ∙ ap (λ n. ranked (ranked old (children_of sp p) c.loop-parent.next) (flat_map (children_of sp) (drop (k + 1) items)) (c.loop-parent.next + n)) (sym (ap length c.children-children.ensures))
          ∙ ap (λ rs. ranked rs (flat_map (children_of sp) (drop (k + 1) items)) (c.loop-parent.next + length c.children-children.result.now)) (sym (back ∙ new));
      room = omega (arith, next, sum, ap length c.children-children.ensures, c.loop-parent.invariant.room);
      size = ap length back ∙ omega (arith, long, c.deref_mut.ensures.len, c.loop-parent.ranks.ok.0, c.loop-parent.invariant.size);
    }

pub returns : goal.returns
returns c =
    let sp = c.args.spine.now in
    let none = none_left c.parents-parent-items.result.now c.loop-parent.parent-index (omega (arith, c.loop-parent-test.false)) in
    are_ranks sp c.units.ensures.sound c.loop-parent.ranks.items
    (sym (c.loop-parent.invariant.whole ∙ ap (λ ps. ranked c.loop-parent.ranks.items (flat_map (children_of sp) ps) c.loop-parent.next) none))
