use Rattle.std.proofs.Common.{◌<◌, length}
use Rattle.tda_groups.specs.Order.{IsWithin, group_at}
use Rattle.tda_groups.proofs.chains.Chains.find.Given as goal

abbrev pub invariant-loop-groups : goal.invariant-loop-groups
invariant-loop-groups l = record {
  here : l.group < length l.self;
  within : IsWithin (group_at l.self l.group) l.set;
}

abbrev pub decreases-loop-groups : goal.decreases-loop-groups
decreases-loop-groups l = l.group
