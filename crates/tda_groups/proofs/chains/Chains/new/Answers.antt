use Rattle.std.proofs.Common.{◌≡◌, ◌∙◌, ◌<◌, [], None, Some, length, get_or, cond, ap, subst, arith, rules}
use Rattle.std.proofs.lemmas.List.{with_items_is, get_or_read}
use Rattle.tda_schema.specs.Parts.{holds}
use Rattle.tda_groups.specs.Order.{group_at}
use Rattle.tda_groups.proofs.Walked.{IsWalked, walked_none, walked_more, walked_all}
use Rattle.tda_groups.proofs.chains.Chains.new.Goals as goal

pub loop-number-init : goal.loop-number-init
loop-number-init c = walked_none c.args.groups.items c.args.cells c.new-next.result.items c.in_ok-smallest.smallest.items c.new-next.ensures.items (search rules)

pub loop-number-preserved : goal.loop-number-preserved
loop-number-preserved c =
    let groups = c.args.groups.items in
    let n = c.loop-number.number in
    let v = c.loop-number.smallest in
    let w = c.loop-number.invariant in
    let ws = c.mark.new.smallest in
    let below : n < length groups = omega (arith, ap length c.deref-group-items.ensures.value) in
    let item : c.group-item.result ≡ group_at groups n = get_or_read groups n c.group-item.result below (c.group-item.is ∙ ap (λ xs. get_or xs n c.group-item.result) c.deref-group-items.ensures.value) [] in
    let kept : length ws ≡ v.len = c.mark.auto.smallest ∙ c.deref_mut.ensures.len in
    let start = c.deref_mut.ensures.value in
    let items = with_items_is v ws kept in
    let set : c.as_slice.result.now ≡ c.group-item.result = c.as_slice.ensures in
    walked_more groups c.requires.groups c.args.cells c.requires.cells n c.group-item.result c.loop-number.next.items c.push.new.self.items v.items _ c.index.result.now
    w below item (c.index.ensures ∙ ap (λ j. get_or v.items j c.index.result.now) c.first.ensures) c.in_ok-push.ensures.items
    (ap length items ∙ kept ∙ v.ok.0 ∙ w.size)
    (λ j low. ap (λ xs. get_or xs j None) items ∙ c.mark.ensures j (omega (arith, ap length start, w.size))
    ∙ ap (λ xs. cond (holds xs j) (Some n) (get_or c.deref_mut.result.now j None)) set
    ∙ ap (λ xs. cond (holds c.group-item.result j) (Some n) (get_or xs j None)) start)

pub invariant_of-result : goal.invariant_of-result
invariant_of-result c =
    let groups = c.args.groups.items in
    let all : c.loop-number.number ≡ length groups = omega (arith, ap length c.deref-group-items.ensures.value) in
    walked_all groups c.requires.groups c.args.cells c.requires.cells c.loop-number.next.items c.loop-number.smallest.items c.requires.few
    (subst (λ n. IsWalked groups c.args.cells n c.loop-number.next.items c.loop-number.smallest.items) all c.loop-number.invariant)
