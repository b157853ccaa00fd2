-- The groups so far.
use Rattle.std.proofs.Common.{◌≡◌, ◌++◌, ◌+◌, length}
use Rattle.tda_model.specs.Bounds.{persons_limit}
use Rattle.tda_model.specs.Spine.{nation_of}
use Rattle.tda_schema.specs.Stated.{level_at}
use Rattle.tda_invar.specs.Known.{JoinedLists}
use Rattle.tda_fitnet.specs.Layout.{row}
use Rattle.tda_fitnet.specs.Inputs.{inputs_of}
use Rattle.tda_fitnet.specs.Arcs.{group_arc}
use Rattle.tda_fitnet.proofs.root.push_nation_groups.Given as goal

abbrev pub invariant-loop-group : goal.invariant-loop-group
invariant-loop-group l =
    (l.fit.nodes ≡ l.fn.fit.nodes)
    × (length l.fit.arcs ≡ length l.fn.fit.arcs + l.group)
    × ((inv : JoinedLists) → l.fit.arcs ≡ l.fn.fit.arcs ++ row l.group (λ g. group_arc (inputs_of l.fn.schema l.fn.spine inv l.fn.m) l.fn.layout l.fn.tree.groups (level_at l.fn.schema 0) 0 (nation_of l.fn.spine) g 0 persons_limit))
