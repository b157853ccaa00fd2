use Rattle.std.proofs.Common.{arith, ◌/◌, ◌-◌, ◌≡◌}
use Rattle.tda_noise.proofs.Peel.{answers_back}
use Rattle.tda_noise.proofs.CoinDraws.{small_start, large_start, large_true_at, large_false_at, large_none_at, large_end_at}
use Rattle.tda_noise.proofs.Counted.{counts_on, counts_start}
use Rattle.tda_noise.proofs.coins.exp_coin.Goals as goal

pub returns-then-n-d-clause-drawn : goal.returns-then-n-d-clause-drawn
returns-then-n-d-clause-drawn g c =
    answers_back (small_start c.args.n c.args.d _ (omega arith)) c.small_exp_coin.result _ c.small_exp_coin.ensures.drawn

pub loop-init : goal.loop-init
loop-init g c =
    let all : c.args.n / c.args.d - 0 ≡ c.args.n / c.args.d = omega arith in
    record {
      leads = rw all (large_start c.args.n c.args.d _ c.if-n-d.false);
      counts = counts_start _ _;
    }

pub returns-in_err-small_exp_coin-clause-drawn : goal.returns-in_err-small_exp_coin-clause-drawn
returns-in_err-small_exp_coin-clause-drawn g c =
    let none = c.in_err-small_exp_coin.ensures.drawn in
    rw c.from_residual.ensures (large_none_at c.args.n c.args.d _ _ _ _ c.loop.invariant.leads c.loop-test.true none.0, none.1)

pub returns-in_err-small_exp_coin-clause-counts : goal.returns-in_err-small_exp_coin-clause-counts
returns-in_err-small_exp_coin-clause-counts g c = counts_on _ _ _ _ _ _ c.loop.invariant.counts c.in_err-small_exp_coin.ensures.counts

pub returns-then-not-branch-clause-drawn : goal.returns-then-not-branch-clause-drawn
returns-then-not-branch-clause-drawn g c =
    let coin = rw c.if-not-branch.true at c.in_ok-small_exp_coin.ensures.drawn in
    large_false_at c.args.n c.args.d _ _ _ _ _ c.loop.invariant.leads c.loop-test.true coin

pub returns-then-not-branch-clause-counts : goal.returns-then-not-branch-clause-counts
returns-then-not-branch-clause-counts g c = counts_on _ _ _ _ _ _ c.loop.invariant.counts c.in_ok-small_exp_coin.ensures.counts

pub returns-clause-drawn : goal.returns-clause-drawn
returns-clause-drawn g c =
    let leads = large_end_at c.args.n c.args.d _ _ _ _ c.loop.invariant.leads c.loop-test.false in
    answers_back leads c.small_exp_coin-2.result _ c.small_exp_coin-2.ensures.drawn

pub returns-clause-counts : goal.returns-clause-counts
returns-clause-counts g c = counts_on _ _ _ _ _ _ c.loop.invariant.counts c.small_exp_coin-2.ensures.counts

pub loop-preserved : goal.loop-preserved
loop-preserved g c =
    let coin = rw c.if-not-branch.false at c.in_ok-small_exp_coin.ensures.drawn in
    record {
      leads = large_true_at c.args.n c.args.d _ _ _ _ _ c.loop.invariant.leads c.loop-test.true coin;
      counts = counts_on _ _ _ _ _ _ c.loop.invariant.counts c.in_ok-small_exp_coin.ensures.counts;
    }
