use Rattle.std.proofs.Common.{length}
use Rattle.tda_noise.specs.Draws.{IsGaussian, FirstGiven, GaussianAttempt}
use Rattle.tda_noise.specs.Answers.{CountsTaken}
use Rattle.tda_noise.proofs.Peel.{Leads}
use Rattle.tda_noise.proofs.discrete_gaussian.gaussian.Given as goal

abbrev pub invariant-loop-number : goal.invariant-loop-number
invariant-loop-number g l =
    let a = l.fn.variance.num in
    let b = l.fn.variance.den in
    record {
      leads : Leads (IsGaussian a b) (g.W.Words.words l.fn.w) (FirstGiven (GaussianAttempt a b l.t)) (g.W.Words.words l.w);
      counts : CountsTaken (g.W.Words.words l.fn.w) (g.W.Words.taken l.fn.w) (g.W.Words.words l.w) (g.W.Words.taken l.w);
    }

abbrev pub decreases-loop-number : goal.decreases-loop-number
decreases-loop-number g l = length (g.W.Words.words l.w)
