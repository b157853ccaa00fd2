use Rattle.std.proofs.Common.{◌≤◌, ◌^◌, slice_index, to_z, sym, subst, arith}
use Rattle.std.specs.Int.{w64}
use Rattle.tda_flow.proofs.Surplus.{IsSummed, summed-none, summed-more, summed-all, code_sum}
use Rattle.tda_flow.proofs.balance.surplus.Goals as goal

pub loop-next-init : goal.loop-next-init
loop-next-init c = summed-none c.args.net.now c.args.flow.now c.args.v c.first_turn-next.result c.first_turn-next.ensures

pub overflow_add-sum : goal.overflow_add-sum
overflow_add-sum c =
    let net = c.args.net.now in
    let flow = c.args.flow.now in
    let t = c.in-Some.turn in
    let now = subst (λ z. IsSummed net flow c.args.v (to_z w64 c.loop-next.sum-bits) z) c.in-Some.is c.loop-next.invariant in
    let in_net = (c.loop-next.invariant.leaves t c.in-Some.is).arc in
    let few : slice_index flow t.arc ≤ 2 ^ 30 = c.requires.few t.arc (omega (arith, in_net, c.requires.count)) in
    (code_sum net flow c.args.v (to_z w64 c.loop-next.sum-bits) c.come_in-sum.result t c.arcs-arcs.ensures.sound.few_arcs now few c.come_in-sum.ensures).0

pub loop-next-preserved : goal.loop-next-preserved
loop-next-preserved c =
    let net = c.args.net.now in
    let flow = c.args.flow.now in
    let t = c.in-Some.turn in
    let now = subst (λ z. IsSummed net flow c.args.v (to_z w64 c.loop-next.sum-bits) z) c.in-Some.is c.loop-next.invariant in
    let in_net = (c.loop-next.invariant.leaves t c.in-Some.is).arc in
    let few : slice_index flow t.arc ≤ 2 ^ 30 = c.requires.few t.arc (omega (arith, in_net, c.requires.count)) in
    let made = (code_sum net flow c.args.v (to_z w64 c.loop-next.sum-bits) c.come_in-sum.result t c.arcs-arcs.ensures.sound.few_arcs now few c.come_in-sum.ensures).1 in
    subst (λ s. IsSummed net flow c.args.v s c.next_turn-next.result) (sym made)
    (summed-more net flow c.args.v (to_z w64 c.loop-next.sum-bits) t c.next_turn-next.result now few c.next_turn-next.ensures)

pub returns : goal.returns
returns c =
    summed-all c.args.net.now c.args.flow.now c.args.v (to_z w64 c.loop-next.sum-bits)
    (subst (λ z. IsSummed c.args.net.now c.args.flow.now c.args.v (to_z w64 c.loop-next.sum-bits) z) c.in_default.is c.loop-next.invariant)
