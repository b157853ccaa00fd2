-- The cells so far.
use Rattle.std.proofs.Common.{◌≡◌, ◌++◌, ◌+◌, length, slice_index}
use Rattle.tda_model.specs.Cells.{kind_of}
use Rattle.tda_groups.specs.Order.{group_at}
use Rattle.tda_fitnet.specs.Layout.{row, kind_node}
use Rattle.tda_fitnet.specs.Arcs.{give_arc}
use Rattle.tda_fitnet.proofs.root.push_nation_gives.Given as goal

abbrev pub invariant-loop-cell : goal.invariant-loop-cell
invariant-loop-cell l =
    (l.fit.nodes ≡ l.fn.fit.nodes)
    × (length l.fit.arcs ≡ length l.fn.fit.arcs + l.cell-index)
    × (l.fit.arcs ≡ l.fn.fit.arcs ++ row l.cell-index (λ r. give_arc l.fn.layout l.fn.tree.groups (kind_node l.fn.layout (kind_of l.fn.schema (slice_index (group_at l.fn.tree.groups 0) r))) 0 l.fn.nation (slice_index (group_at l.fn.tree.groups 0) r)))
