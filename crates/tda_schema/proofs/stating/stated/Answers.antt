use Rattle.std.proofs.Common.{rules}
use Rattle.tda_schema.proofs.LookedUp.{looked_up_by}
use Rattle.tda_schema.proofs.Paid.{paid_by}
use Rattle.tda_schema.proofs.stating.stated.Goals as goal

pub returns-clause-looked_up : goal.returns-clause-looked_up
returns-clause-looked_up c = looked_up_by c.args.schema.now _ (search rules) c.requires.named c.requires.distinct c.requires.sized c.requires.known

pub returns-clause-paid : goal.returns-clause-paid
returns-clause-paid c = paid_by c.args.schema.now _ (search rules) c.requires.paid
