use Rattle.tda_loss.proofs.Laws.{IsCurve-value_of}
use Rattle.tda_loss.proofs.Loss.curve.Goals as goal

pub returns-clause-laws : goal.returns-clause-laws
returns-clause-laws g c = IsCurve-value_of c.args.self.now.curve
