use Rattle.tda_fitnet.proofs.Passing.{all_passed}
use Rattle.tda_fitnet.proofs.group_flows.sum_groups.Goals as goal

pub returns-clause-sums : goal.returns-clause-sums
returns-clause-sums c = all_passed c.args.net.now c.args.first c.args.node c.args.give c.requires.grouped c.args.flow.now c.pass_gives.new.flow c.pass_groups.new.flow c.pass_gives.ensures c.pass_groups.ensures
