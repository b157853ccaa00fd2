-- The cells so far.
use Rattle.std.proofs.Common.{◌≡◌, ◌++◌, ◌+◌, length, slice_index}
use Rattle.tda_fitnet.specs.Layout.{row}
use Rattle.tda_fitnet.specs.Arcs.{source_arc}
use Rattle.tda_fitnet.proofs.split.push_counts.Given as goal

abbrev pub invariant-loop-r : goal.invariant-loop-r
invariant-loop-r l =
    (l.fit.nodes ≡ l.fn.fit.nodes)
    × (length l.fit.arcs ≡ length l.fn.fit.arcs + l.r)
    × (l.fit.arcs ≡ l.fn.fit.arcs ++ row l.r (λ r. source_arc r (slice_index l.table (slice_index l.cells r))))
