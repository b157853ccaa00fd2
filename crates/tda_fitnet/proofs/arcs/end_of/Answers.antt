-- The next larger group's node.
use Rattle.std.proofs.Common.{◌≡◌, ◌+◌, ◌<◌, ℕ, List, cond, sym, ap, ◌∙◌, arith, ne_eqb}
use Rattle.tda_fitnet.specs.declared.layout.Layout.{Layout}
use Rattle.tda_fitnet.specs.Layout.{hub, group_node}
use Rattle.tda_groups.specs.Chains.{next_of}
use Rattle.tda_fitnet.specs.Arcs.{group_end}
use Rattle.tda_fitnet.proofs.arcs.end_of.Goals as goal

end_is : (l : Layout) (groups : List (List ℕ)) (u base g next : ℕ) → base ≡ group_node l u 0 → next < g → next ≡ next_of groups g → base + next ≡ group_end l groups u g
end_is l groups u base g next e less is =
    let at : base + next ≡ group_node l u next = omega arith in
    at ∙ ap (group_node l u) is ∙ sym (ap (λ b. cond b hub (group_node l u (next_of groups g))) (ne_eqb g 0 (λ z. omega arith)))

pub returns-in-Some-clause-node : goal.returns-in-Some-clause-node
returns-in-Some-clause-node c l u e =
    let tells = c.in-Some.ensures in
    end_is l c.args.tree.now.groups u c.args.base c.args.group c.in-Some.next e tells.least.less tells.value
