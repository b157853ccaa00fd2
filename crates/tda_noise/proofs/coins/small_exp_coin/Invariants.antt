use Rattle.std.proofs.Common.{length, ◌+◌, ◌≤◌}
use Rattle.tda_noise.specs.Draws.{IsSmallExponential}
use Rattle.tda_noise.specs.Answers.{CountsTaken}
use Rattle.tda_noise.proofs.Peel.{Leads}
use Rattle.tda_noise.proofs.CoinDraws.{SmallFrom}
use Rattle.tda_noise.proofs.coins.small_exp_coin.Given as goal

abbrev pub invariant-loop-toss : goal.invariant-loop-toss
invariant-loop-toss g l = record {
  leads : Leads (IsSmallExponential l.fn.n l.fn.d) (g.W.Words.words l.fn.w) (SmallFrom l.fn.n l.fn.d l.toss) (g.W.Words.words l.w);
  room : length (g.W.Words.words l.w) + l.toss ≤ length (g.W.Words.words l.fn.w) + 1;
  counts : CountsTaken (g.W.Words.words l.fn.w) (g.W.Words.taken l.fn.w) (g.W.Words.words l.w) (g.W.Words.taken l.w);
}
