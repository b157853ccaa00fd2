use Rattle.std.proofs.Common.{◌≤◌}
use Rattle.tda_fitnet.specs.GroupFlows.{GivesPassed}
use Rattle.tda_fitnet.proofs.group_flows.pass_gives.Given as goal

abbrev pub invariant-loop-arc : goal.invariant-loop-arc
invariant-loop-arc l = (l.give ≤ l.arc) × GivesPassed l.net l.first l.node l.fn.flow l.arc l.flow
