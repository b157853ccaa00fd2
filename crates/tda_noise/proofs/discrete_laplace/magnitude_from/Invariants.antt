use Rattle.std.proofs.Common.{length}
use Rattle.tda_noise.specs.Answers.{CountsTaken}
use Rattle.tda_noise.proofs.LaplaceDraws.{Raised}
use Rattle.tda_noise.proofs.discrete_laplace.magnitude_from.Given as goal

abbrev pub invariant-loop-magnitude : goal.invariant-loop-magnitude
invariant-loop-magnitude g l = record {
  raised : Raised l.fn.u l.fn.t (g.W.Words.words l.fn.w) (g.W.Words.words l.w) l.magnitude;
  counts : CountsTaken (g.W.Words.words l.fn.w) (g.W.Words.taken l.fn.w) (g.W.Words.words l.w) (g.W.Words.taken l.w);
}

abbrev pub decreases-loop-magnitude : goal.decreases-loop-magnitude
decreases-loop-magnitude g l = length (g.W.Words.words l.w)
