use Rattle.std.specs.Fn.{CalledAt}
use Rattle.tda_descent.proofs.Steps.{refused}
use Rattle.tda_descent.proofs.descent.pass_on.Goals as goal

pub returns-clause-ends : goal.returns-clause-ends
returns-clause-ends g c = refused (CalledAt g.K.FnMut) c.args.fit.now c.args.keep.now _ c.hand_on.result c.hand_on.ensures.refused c.hand_on.ensures.stopped
