use Rattle.std.proofs.Common.{length}
use Rattle.tda_noise.specs.Draws.{IsUniform, FirstGiven, UniformAttempt}
use Rattle.tda_noise.specs.Answers.{CountsTaken}
use Rattle.tda_noise.proofs.Peel.{Leads}
use Rattle.tda_noise.proofs.uniform.uniform_below.Given as goal

abbrev pub invariant-loop-number : goal.invariant-loop-number
invariant-loop-number g l = record {
  leads : Leads (IsUniform l.fn.n) (g.W.Words.words l.fn.w) (FirstGiven (UniformAttempt l.fn.n l.digits)) (g.W.Words.words l.w);
  counts : CountsTaken (g.W.Words.words l.fn.w) (g.W.Words.taken l.fn.w) (g.W.Words.words l.w) (g.W.Words.taken l.w);
}

abbrev pub decreases-loop-number : goal.decreases-loop-number
decreases-loop-number g l = length (g.W.Words.words l.w)
