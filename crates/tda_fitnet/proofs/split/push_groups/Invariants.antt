-- The children so far.
use Rattle.std.proofs.Common.{◌≡◌, ◌++◌, ◌+◌, ◌*◌, length, slice_index}
use Rattle.tda_model.specs.Spine.{level_of, children_of}
use Rattle.tda_schema.specs.Stated.{level_at}
use Rattle.tda_fitnet.specs.Layout.{rows}
use Rattle.tda_fitnet.specs.Inputs.{inputs_of}
use Rattle.tda_fitnet.specs.Rows.{child_group}
use Rattle.tda_fitnet.proofs.split.push_groups.Given as goal

abbrev pub invariant-loop-u : goal.invariant-loop-u
invariant-loop-u l =
    (l.fit.nodes ≡ l.fn.fit.nodes)
    × (length l.fit.arcs ≡ length l.fn.fit.arcs + l.u * length l.fn.tree.groups)
    × (l.fit.arcs ≡ l.fn.fit.arcs ++ rows l.u (length l.fn.tree.groups) (λ u. child_group (inputs_of l.fn.schema l.fn.spine l.fn.inv l.fn.m) l.fn.layout l.fn.tree.groups (level_at l.fn.schema (level_of l.fn.spine l.fn.parent + 1)) u (slice_index (children_of l.fn.spine l.fn.parent) u)))
