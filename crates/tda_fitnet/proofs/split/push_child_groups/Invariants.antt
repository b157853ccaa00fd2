-- The groups so far.
use Rattle.std.proofs.Common.{◌≡◌, ◌++◌, ◌+◌, ℕ, length}
use Rattle.tda_model.specs.Spine.{level_of}
use Rattle.tda_schema.specs.Stated.{level_at}
use Rattle.tda_groups.specs.Order.{group_at}
use Rattle.tda_fitnet.specs.declared.layout.Layout.{Layout}
use Rattle.tda_fitnet.specs.Layout.{row, group_node}
use Rattle.tda_fitnet.specs.Terms.{group_low, group_high}
use Rattle.tda_fitnet.specs.Inputs.{inputs_of}
use Rattle.tda_fitnet.specs.Arcs.{group_arc}
use Rattle.tda_fitnet.proofs.split.push_child_groups.Given as goal

abbrev pub invariant-loop-group : goal.invariant-loop-group
invariant-loop-group l =
    (l.fit.nodes ≡ l.fn.fit.nodes)
    × (length l.fit.arcs ≡ length l.fn.fit.arcs + l.group)
    × ((lay : Layout) (u : ℕ) → l.fn.base ≡ group_node lay u 0
    → l.fit.arcs ≡ l.fn.fit.arcs ++ row l.group (λ g. group_arc (inputs_of l.fn.schema l.fn.spine l.fn.inv l.fn.m) lay l.fn.tree.groups (level_at l.fn.schema (level_of l.fn.spine l.fn.child)) u l.fn.child g
    (group_low (inputs_of l.fn.schema l.fn.spine l.fn.inv l.fn.m) l.fn.child g (group_at l.fn.tree.groups g)) (group_high (inputs_of l.fn.schema l.fn.spine l.fn.inv l.fn.m) l.fn.child g (group_at l.fn.tree.groups g))))
