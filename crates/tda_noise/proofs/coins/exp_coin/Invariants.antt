use Rattle.std.proofs.Common.{◌-◌}
use Rattle.tda_noise.specs.Draws.{IsExponential}
use Rattle.tda_noise.specs.Answers.{CountsTaken}
use Rattle.tda_noise.proofs.Peel.{Leads}
use Rattle.tda_noise.proofs.CoinDraws.{LargeFrom}
use Rattle.tda_noise.proofs.coins.exp_coin.Given as goal

abbrev pub invariant-loop : goal.invariant-loop
invariant-loop g l = record {
  leads : Leads (IsExponential l.fn.n l.fn.d) (g.W.Words.words l.fn.w) (LargeFrom l.fn.n l.fn.d l.counter (l.end - l.counter)) (g.W.Words.words l.w);
  counts : CountsTaken (g.W.Words.words l.fn.w) (g.W.Words.taken l.fn.w) (g.W.Words.words l.w) (g.W.Words.taken l.w);
}
