use Rattle.std.proofs.Common.{◌≡◌, ◌/◌, arith, rules, inl, inr, Err, w64}
use Rattle.std.proofs.lemmas.Int.{to_z_pos}
use Rattle.tda_noise.proofs.Signs.{negated}
use Rattle.tda_noise.proofs.LaplaceDraws.{part_within, sign_is, no_sign, stop_laplace}
use Rattle.tda_noise.proofs.discrete_laplace.laplace_attempt.Goals as goal

pub returns-in_err-magnitude-clause-drawn : goal.returns-in_err-magnitude-clause-drawn
returns-in_err-magnitude-clause-drawn g c =
    let halt = c.in_err-magnitude.field-0.0 in
    let result : c.from_residual.result ≡ Err halt = search rules in
    rw result (stop_laplace c.args.s c.args.t _ _ halt c.in_err-magnitude.ensures.drawn)

pub returns-then-part-gt0-clause-drawn : goal.returns-then-part-gt0-clause-drawn
returns-then-part-gt0-clause-drawn g c =
    let m = c.in-Some.magnitude in
    let magnitude = rw c.in-Some.is at c.in_ok-magnitude.ensures.drawn in
    let coin = rw c.in-Some-true.field-0-test at c.in-Some-true.ensures.drawn in
    let small = part_within c.args.s c.args.t m _ _ magnitude in
    (m / c.args.s, inr (sign_is c.args.s c.args.t m _ _ _ _ magnitude coin, c.if-part-gt0.true, negated _ small))

pub returns-else-part-gt0-clause-drawn : goal.returns-else-part-gt0-clause-drawn
returns-else-part-gt0-clause-drawn g c =
    let m = c.in-Some.magnitude in
    let magnitude = rw c.in-Some.is at c.in_ok-magnitude.ensures.drawn in
    let coin = rw c.in-Some-true.field-0-test at c.in-Some-true.ensures.drawn in
    let none : m / c.args.s ≡ 0 = omega arith in
    inr (rw none at (sign_is c.args.s c.args.t m _ _ _ _ magnitude coin))

pub returns-in-Some-false-clause-drawn : goal.returns-in-Some-false-clause-drawn
returns-in-Some-false-clause-drawn g c =
    let m = c.in-Some.magnitude in
    let magnitude = rw c.in-Some.is at c.in_ok-magnitude.ensures.drawn in
    let coin = rw c.in-Some-false.field-0-test at c.in-Some-false.ensures.drawn in
    let small = part_within c.args.s c.args.t m _ _ magnitude in
    (m / c.args.s, inl (sign_is c.args.s c.args.t m _ _ _ _ magnitude coin, to_z_pos w64 _ small))

pub returns-in-None-clause-drawn : goal.returns-in-None-clause-drawn
returns-in-None-clause-drawn g c =
    let magnitude = rw c.in-Some.is at c.in_ok-magnitude.ensures.drawn in
    let none = c.in-None.ensures.drawn in
    (no_sign c.args.s c.args.t c.in-Some.magnitude _ _ magnitude none.0, none.1)
