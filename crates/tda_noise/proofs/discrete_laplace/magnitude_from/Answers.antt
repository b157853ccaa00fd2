use Rattle.std.proofs.Common.{◌+◌, ◌^◌, ◌<◌, arith, w64}
use Rattle.std.proofs.lemmas.Int.{to_z_pos}
use Rattle.tda_noise.proofs.CoinDraws.{one_over_e_proper}
use Rattle.tda_noise.proofs.Counted.{counts_on}
use Rattle.tda_noise.proofs.LaplaceDraws.{one_over_e, no_one_over_e, raised_true, raised_false, raised_past_as, raised_none}
use Rattle.tda_noise.proofs.discrete_laplace.magnitude_from.Goals as goal

pub returns-in-Some-false-clause-drawn : goal.returns-in-Some-false-clause-drawn
returns-in-Some-false-clause-drawn g c =
    let coin = rw c.in-Some-false.field-0-test at c.in-Some-false.ensures.drawn in
    raised_false c.loop-magnitude.invariant.raised _ (one_over_e _ _ _ coin)

pub returns-in-None-clause-drawn : goal.returns-in-None-clause-drawn
returns-in-None-clause-drawn g c =
    let none = c.in-None.ensures.drawn in
    (raised_none c.loop-magnitude.invariant.raised (no_one_over_e _ none.0), none.1)

pub returns-then-magnitude-gt-MAGNITUDE_LIMIT-clause-drawn : goal.returns-then-magnitude-gt-MAGNITUDE_LIMIT-clause-drawn
returns-then-magnitude-gt-MAGNITUDE_LIMIT-clause-drawn g c =
    let coin = rw c.in-Some-true.field-0-test at c.in-Some-true.ensures.drawn in
    let within = c.loop-magnitude.invariant.raised.within in
    let small : c.loop-magnitude.magnitude + c.args.t < 2 ^ 63 = omega arith in
    raised_past_as c.loop-magnitude.invariant.raised _ (one_over_e _ _ _ coin) c.if-magnitude-gt-MAGNITUDE_LIMIT.true _ (to_z_pos w64 (c.loop-magnitude.magnitude + c.args.t) small)

pub loop-magnitude-smaller : goal.loop-magnitude-smaller
loop-magnitude-smaller g c =
    let coin = rw c.in-Some-true.field-0-test at c.in-Some-true.ensures.drawn in
    (one_over_e_proper 0).takes _ _ _ (one_over_e _ _ _ coin)

pub loop-magnitude-preserved : goal.loop-magnitude-preserved
loop-magnitude-preserved g c =
    let coin = rw c.in-Some-true.field-0-test at c.in-Some-true.ensures.drawn in
    record {
      raised = raised_true c.loop-magnitude.invariant.raised _ (one_over_e _ _ _ coin) (omega arith);
      counts = counts_on _ _ _ _ _ _ c.loop-magnitude.invariant.counts c.in-Some-true.ensures.counts;
    }
