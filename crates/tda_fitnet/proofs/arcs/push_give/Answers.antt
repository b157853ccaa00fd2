-- An arc to a cell's smallest group.
use Rattle.std.proofs.Common.{◌≡◌, ◌+◌, ◌∷◌, [], ◌++◌, ℕ, List, length, ap, ◌∙◌, arith, length-append}
use Rattle.std.proofs.lemmas.Result.{on_ok_weaker}
use Rattle.tda_model.specs.Bounds.{persons_limit}
use Rattle.tda_fitnet.specs.declared.name.ArcName.TheVariants.{Give}
use Rattle.tda_fitnet.specs.declared.layout.Layout.{Layout}
use Rattle.tda_fitnet.specs.Layout.{group_node}
use Rattle.tda_groups.specs.Chains.{smallest_of}
use Rattle.tda_fitnet.specs.Arcs.{give_arc, plain_arc}
use Rattle.tda_fitnet.proofs.arcs.push_give.Goals as goal

node_is : (l : Layout) (u base g h : ℕ) → base ≡ group_node l u 0 → g ≡ h → base + g ≡ group_node l u h
node_is l u base g h e d = omega arith

arc_is : (l : Layout) (groups : List (List ℕ)) (u base from unit cell g : ℕ) → base ≡ group_node l u 0 → g ≡ smallest_of groups cell
    → plain_arc (Give unit cell) from (base + g) 0 persons_limit ≡ give_arc l groups from u unit cell
arc_is l groups u base from unit cell g e d = ap (λ to. plain_arc (Give unit cell) from to 0 persons_limit) (node_is l u base g (smallest_of groups cell) e d)

pub returns-clause-nodes : goal.returns-clause-nodes
returns-clause-nodes c = on_ok_weaker c.push.result (λ e. ap (λ n. n.nodes) e) c.push.ensures

pub returns-clause-count : goal.returns-clause-count
returns-clause-count c = on_ok_weaker c.push.result (λ e. ap (λ n. length n.arcs) e ∙ length-append c.args.fit.now.arcs _) c.push.ensures

pub returns-clause-arcs : goal.returns-clause-arcs
returns-clause-arcs c l u e =
    let groups = c.args.tree.now.groups in
    on_ok_weaker c.push.result
    (λ d. ap (λ n. n.arcs) d ∙ ap (λ a. c.args.fit.now.arcs ++ a ∷ []) (arc_is l groups u c.args.base c.args.from c.args.unit c.args.cell c.smallest.result e c.smallest.ensures.value))
    c.push.ensures
