use Rattle.std.proofs.Common.{◌*◌, ◌≡◌, ◌%◌, nat_eq, add-one, arith, eq-eqb, ℕ, IsTrue}
use Rattle.std.proofs.lemmas.Bool.Decides.{nat_tests}
use Rattle.tda_noise.proofs.Peel.{leads_on}
use Rattle.tda_noise.proofs.CoinDraws.{small_true, small_false, small_none, small_ended, coin_proper}
use Rattle.tda_noise.proofs.Counted.{counts_on}
use Rattle.tda_noise.proofs.coins.small_exp_coin.Goals as goal

odd_of : (t : ℕ) → IsTrue (nat_eq (t % 2) 1) → t % 2 ≡ 1
odd_of t h = grind (arith, nat_tests)

pub returns-in_err-coin-clause-drawn : goal.returns-in_err-coin-clause-drawn
returns-in_err-coin-clause-drawn g c =
    let none = rw c.from.ensures at c.in_err-coin.ensures.drawn in
    let ends = small_none c.args.n c.args.d c.loop-toss.toss _ none.0 in
    rw c.from_residual.ensures (λ b r x. ends b r (c.loop-toss.invariant.leads.to b r x), none.1)

pub returns-then-not-branch-clause-drawn : goal.returns-then-not-branch-clause-drawn
returns-then-not-branch-clause-drawn g c =
    let coin = rw (c.from.ensures, c.if-not-branch.true) at c.in_ok-coin.ensures.drawn in
    let t = c.loop-toss.toss in
    c.loop-toss.invariant.leads.from _ _ (small_false c.args.n c.args.d t _ _ (nat_eq (t % 2) 1) coin (λ h. odd_of t h, λ h. eq-eqb (t % 2) 1 h))

pub returns-else-not-branch-clause-drawn : goal.returns-else-not-branch-clause-drawn
returns-else-not-branch-clause-drawn g c =
    let coin = rw (c.from.ensures, c.if-not-branch.false) at c.in_ok-coin.ensures.drawn in
    let i = c.loop-toss.invariant in
    let taken = (coin_proper c.args.n (c.args.d * c.loop-toss.toss)).takes _ _ _ coin in
    let leads = leads_on i.leads (small_true c.args.n c.args.d c.loop-toss.toss _ _ coin) in
    small_ended c.args.n c.args.d _ _ _ leads (omega arith)

pub loop-toss-preserved : goal.loop-toss-preserved
loop-toss-preserved g c =
    let coin = rw (c.from.ensures, c.if-not-branch.false) at c.in_ok-coin.ensures.drawn in
    let i = c.loop-toss.invariant in
    let taken = (coin_proper c.args.n (c.args.d * c.loop-toss.toss)).takes _ _ _ coin in
    let leads = leads_on i.leads (small_true c.args.n c.args.d c.loop-toss.toss _ _ coin) in
    record {
      leads = rw add-one leads;
      room = omega arith;
      counts = counts_on _ _ _ _ _ _ i.counts c.in_ok-coin.ensures.counts;
    }

pub returns-clause-drawn : goal.returns-clause-drawn
returns-clause-drawn g c =
    let i = c.loop-toss.invariant in
    small_ended c.args.n c.args.d _ _ _ i.leads (omega arith)
