-- The children so far.
use Rattle.std.proofs.Common.{◌≡◌, ◌++◌, ◌+◌, ◌*◌, length, slice_index}
use Rattle.tda_groups.specs.Order.{group_at}
use Rattle.tda_fitnet.specs.Layout.{rows, source_node}
use Rattle.tda_fitnet.specs.Arcs.{give_arc}
use Rattle.tda_fitnet.proofs.split.push_gives.Given as goal

abbrev pub invariant-loop-u : goal.invariant-loop-u
invariant-loop-u l =
    (l.fit.nodes ≡ l.fn.fit.nodes)
    × (length l.fit.arcs ≡ length l.fn.fit.arcs + l.u * l.fn.layout.cells)
    × (l.fit.arcs ≡ l.fn.fit.arcs ++ rows l.u l.fn.layout.cells (λ u r. give_arc l.fn.layout l.fn.tree.groups (source_node r) u (slice_index l.fn.children u) (slice_index (group_at l.fn.tree.groups 0) r)))
