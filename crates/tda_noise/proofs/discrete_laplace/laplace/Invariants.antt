use Rattle.std.proofs.Common.{length}
use Rattle.tda_noise.specs.Draws.{IsLaplace}
use Rattle.tda_noise.specs.Answers.{CountsTaken}
use Rattle.tda_noise.proofs.Peel.{Leads}
use Rattle.tda_noise.proofs.discrete_laplace.laplace.Given as goal

abbrev pub invariant-loop-number : goal.invariant-loop-number
invariant-loop-number g l = record {
  leads : Leads (IsLaplace l.fn.s l.fn.t) (g.W.Words.words l.fn.w) (IsLaplace l.fn.s l.fn.t) (g.W.Words.words l.w);
  counts : CountsTaken (g.W.Words.words l.fn.w) (g.W.Words.taken l.fn.w) (g.W.Words.words l.w) (g.W.Words.taken l.w);
}

abbrev pub decreases-loop-number : goal.decreases-loop-number
decreases-loop-number g l = length (g.W.Words.words l.w)
