use Rattle.std.proofs.Common.{◌≡◌, ◌++◌, ℕ, ◌+◌, length, slice_index}
use Rattle.tda_groups.specs.Order.{group_at}
use Rattle.tda_fitnet.specs.declared.layout.Layout.{Layout}
use Rattle.tda_fitnet.specs.Layout.{row, source_node, group_node}
use Rattle.tda_fitnet.specs.Arcs.{give_arc}
use Rattle.tda_fitnet.proofs.split.push_child_gives.Given as goal

abbrev pub invariant-loop-r : goal.invariant-loop-r
invariant-loop-r l =
    (l.fit.nodes ≡ l.fn.fit.nodes)
    × (length l.fit.arcs ≡ length l.fn.fit.arcs + l.r)
    × ((lay : Layout) (u : ℕ) → l.fn.base ≡ group_node lay u 0
    → l.fit.arcs ≡ l.fn.fit.arcs ++ row l.r (λ r. give_arc lay l.fn.tree.groups (source_node r) u l.fn.child (slice_index (group_at l.fn.tree.groups 0) r)))
