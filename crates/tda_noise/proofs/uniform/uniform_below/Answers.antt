use Rattle.std.proofs.Common.{arith}
use Rattle.tda_noise.proofs.UniformDraws.{width_is, uniform_leads, piece_refused, piece_missing}
use Rattle.tda_noise.proofs.Counted.{counts_on, counts_start}
use Rattle.tda_noise.proofs.uniform.uniform_below.Goals as goal

pub loop-number-init : goal.loop-number-init
loop-number-init g c = record {
  leads = uniform_leads c.args.n _ _ (width_is c.args.n c.requires.some c.requires.limit);
  counts = counts_start _ _;
}

pub low_digits-requires : goal.low_digits-requires
low_digits-requires g c = (width_is c.args.n c.requires.some c.requires.limit).least 100 c.requires.limit

pub returns-in_err-number-clause-drawn : goal.returns-in_err-number-clause-drawn
returns-in_err-number-clause-drawn g c =
    let none = c.in_err-number.ensures.drawn in
    rw c.from_residual.ensures (piece_missing c.args.n _ _ _ c.loop-number.invariant.leads none.0, none.1)

pub loop-number-preserved : goal.loop-number-preserved
loop-number-preserved g c = record {
  leads = piece_refused c.args.n _ _ _ _ _ c.loop-number.invariant.leads c.in_ok-number.ensures.drawn (omega arith);
  counts = counts_on _ _ _ _ _ _ c.loop-number.invariant.counts c.in_ok-number.ensures.counts;
}
