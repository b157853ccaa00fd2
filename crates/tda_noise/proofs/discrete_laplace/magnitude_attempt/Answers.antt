use Rattle.std.proofs.Common.{◌≡◌, arith, rules, true, Err}
use Rattle.tda_noise.specs.Draws.{Begins}
use Rattle.tda_noise.proofs.UniformDraws.{is_below}
use Rattle.tda_noise.proofs.LaplaceDraws.{no_u, no_u_coin, stop_attempt}
use Rattle.tda_noise.proofs.discrete_laplace.magnitude_attempt.Goals as goal

pub returns-in_default-clause-drawn : goal.returns-in_default-clause-drawn
returns-in_default-clause-drawn g c =
    let none = rw c.from.ensures at c.in_default.ensures.drawn in
    (no_u c.args.t _ none.0, none.1)

pub exp_coin-requires-clause-numerator : goal.exp_coin-requires-clause-numerator
exp_coin-requires-clause-numerator g c =
    let below = is_below _ _ _ _ c.in-Some.ensures.drawn in
    omega arith

pub overflow_cast-u : goal.overflow_cast-u
overflow_cast-u g c =
    let below = is_below _ _ _ _ c.in-Some.ensures.drawn in
    omega arith

pub magnitude_from-requires-clause-start : goal.magnitude_from-requires-clause-start
magnitude_from-requires-clause-start g c =
    let below = is_below _ _ _ _ c.in-Some.ensures.drawn in
    omega arith

pub returns-in_err-magnitude_from-in-Some-true-clause-drawn : goal.returns-in_err-magnitude_from-in-Some-true-clause-drawn
returns-in_err-magnitude_from-in-Some-true-clause-drawn g c =
    let number = rw c.from.ensures at c.in-Some.ensures.drawn in
    let coin = rw (c.from-2.ensures, c.in-Some-true.field-0-test) at c.in-Some-true.ensures.drawn in
    let halt = c.in_err-magnitude_from-in-Some-true.field-0.0 in
    let begins : Begins c.args.t (g.W.Words.words c.args.w.now) c.in-Some.u true (g.W.Words.words c.exp_coin.new.w) = record { rest = _; uniform = number; coin = coin } in
    let result : c.from_residual.result ≡ Err halt = search rules in
    rw result (stop_attempt c.args.t c.in-Some.u _ _ _ begins halt c.in_err-magnitude_from-in-Some-true.ensures.drawn)

pub returns-in-Some-false-clause-drawn : goal.returns-in-Some-false-clause-drawn
returns-in-Some-false-clause-drawn g c =
    let number = rw c.from.ensures at c.in-Some.ensures.drawn in
    let coin = rw (c.from-2.ensures, c.in-Some-false.field-0-test) at c.in-Some-false.ensures.drawn in
    (c.in-Some.u, record { rest = _; uniform = number; coin = coin })

pub returns-in-None-clause-drawn : goal.returns-in-None-clause-drawn
returns-in-None-clause-drawn g c =
    let number = rw c.from.ensures at c.in-Some.ensures.drawn in
    let none = rw c.from-2.ensures at c.in-None.ensures.drawn in
    (no_u_coin c.args.t c.in-Some.u _ _ number none.0, none.1)
