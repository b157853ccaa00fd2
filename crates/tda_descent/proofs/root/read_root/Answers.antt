use Rattle.std.proofs.Common.{arith}
use Rattle.tda_descent.proofs.Solving.{flow_length}
use Rattle.tda_descent.proofs.root.read_root.Goals as goal

pub at_level-states-requires : goal.at_level-states-requires
at_level-states-requires g c = omega (arith, c.requires.tree.deep)

pub flow_shares-requires-clause-flow : goal.flow_shares-requires-clause-flow
flow_shares-requires-clause-flow g c = flow_length c.args.fit.now c.args.flow.now c.net-net.ensures.layout c.requires.solved.circulates.count

pub flow_counts-requires-clause-flow : goal.flow_counts-requires-clause-flow
flow_counts-requires-clause-flow g c = flow_length c.args.fit.now c.args.flow.now c.net-net.ensures.layout c.requires.solved.circulates.count
