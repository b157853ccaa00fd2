use Rattle.std.proofs.Common.{◌≤◌}
use Rattle.tda_fitnet.specs.GroupFlows.{GroupsPassed}
use Rattle.tda_fitnet.proofs.group_flows.pass_groups.Given as goal

abbrev pub invariant-loop-arc : goal.invariant-loop-arc
invariant-loop-arc l = (l.first ≤ l.arc) × GroupsPassed l.net l.first l.node l.fn.flow l.arc l.flow
