use Rattle.std.proofs.Common.{rules, ◌≤◌, ◌+◌, arith, refl, false, true, w64, SFits, to_z, of_z}
use Rattle.std.proofs.lemmas.Int.{to_z-of_z}
use Rattle.tda_noise.specs.Draws.{GaussianAttempt, Refused, Drawn, Passed}
use Rattle.tda_noise.proofs.Counted.{counts_on, counts_start}
use Rattle.tda_noise.proofs.Peel.{leads_on, refused_leads, no_attempt}
use Rattle.tda_noise.proofs.GaussianDraws.{gaussian_leads, gaussian_attempt_proper, no_laplace, no_coin_for, laplace_as, passed_as, kept_as, none_kept_as, scale_as}
use Rattle.tda_noise.proofs.discrete_gaussian.gaussian.Goals as goal

pub loop-number-init : goal.loop-number-init
loop-number-init g c =
    let v = c.args.variance in
    let root = c.isqrt-root.ensures in
    record {
      leads = gaussian_leads v.num v.den _ _ (scale_as v.num v.den _ _ _ c.num-a.ensures.value c.den-b.ensures.value c.requires.denominator root.square_le root.next_square_gt);
      counts = counts_start _ _;
    }

pub returns-in-TooLarge-clause-drawn : goal.returns-in-TooLarge-clause-drawn
returns-in-TooLarge-clause-drawn g c =
    let magnitude = c.in-TooLarge.magnitude in
    let fits : SFits w64 magnitude = search rules in
    let passed = passed_as _ _ _ _ magnitude (to_z-of_z w64 magnitude fits) c.in-TooLarge.ensures.drawn in
    c.loop-number.invariant.leads.from (Passed (to_z w64 (of_z w64 magnitude))) _ (0, passed)

pub returns-in-OutOfWords-clause-drawn : goal.returns-in-OutOfWords-clause-drawn
returns-in-OutOfWords-clause-drawn g c =
    let v = c.args.variance in
    let t = c.isqrt-root.result + 1 in
    let none = c.in-OutOfWords.ensures.drawn in
    let attempt = no_laplace v.num v.den t _ none.0 in
    (λ x r d. no_attempt (GaussianAttempt v.num v.den t) _ attempt x r (c.loop-number.invariant.leads.to x r d), none.1)

pub is_kept-requires-clause-scale : goal.is_kept-requires-clause-scale
is_kept-requires-clause-scale g c =
    let root = c.isqrt-root.ensures in
    let value = c.den-b.ensures.value in
    let positive = c.requires.denominator in
    let some : 1 ≤ c.den-b.result = omega arith in
    scale_as _ _ c.num-a.result c.den-b.result _ refl refl some root.square_le root.next_square_gt

pub is_kept-requires-clause-magnitude : goal.is_kept-requires-clause-magnitude
is_kept-requires-clause-magnitude g c =
    let number = c.in-Value.number in
    let fits : SFits w64 number = search rules in
    rw (to_z-of_z w64 number fits) c.in-Value.ensures.within

pub returns-in-Some-true-clause-within : goal.returns-in-Some-true-clause-within
returns-in-Some-true-clause-within g c =
    let number = c.in-Value.number in
    let fits : SFits w64 number = search rules in
    rw (to_z-of_z w64 number fits) c.in-Value.ensures.within

pub returns-in-Some-true-clause-drawn : goal.returns-in-Some-true-clause-drawn
returns-in-Some-true-clause-drawn g c =
    let v = c.args.variance in
    let number = c.in-Value.number in
    let fits : SFits w64 number = search rules in
    let passed = to_z w64 (of_z w64 number) in
    let laplace = laplace_as _ _ _ _ number (to_z-of_z w64 number fits) c.in-Value.ensures.drawn in
    let kept = kept_as v.num v.den _ _ (c.isqrt-root.result + 1) passed _ _ _ true c.num-a.ensures.value c.den-b.ensures.value c.in-Some-true.field-0-test c.in-Some-true.ensures.drawn in
    c.loop-number.invariant.leads.from (Drawn passed) _ (0, (_, laplace, kept))

pub loop-number-smaller : goal.loop-number-smaller
loop-number-smaller g c =
    let v = c.args.variance in
    let number = c.in-Value.number in
    let fits : SFits w64 number = search rules in
    let passed = to_z w64 (of_z w64 number) in
    let laplace = laplace_as _ _ _ _ number (to_z-of_z w64 number fits) c.in-Value.ensures.drawn in
    let kept = kept_as v.num v.den _ _ (c.isqrt-root.result + 1) passed _ _ _ false c.num-a.ensures.value c.den-b.ensures.value c.in-Some-false.field-0-test c.in-Some-false.ensures.drawn in
    (gaussian_attempt_proper v.num v.den (c.isqrt-root.result + 1)).takes _ Refused _ (passed, _, laplace, kept)

pub loop-number-preserved : goal.loop-number-preserved
loop-number-preserved g c =
    let v = c.args.variance in
    let number = c.in-Value.number in
    let fits : SFits w64 number = search rules in
    let passed = to_z w64 (of_z w64 number) in
    let laplace = laplace_as _ _ _ _ number (to_z-of_z w64 number fits) c.in-Value.ensures.drawn in
    let kept = kept_as v.num v.den _ _ (c.isqrt-root.result + 1) passed _ _ _ false c.num-a.ensures.value c.den-b.ensures.value c.in-Some-false.field-0-test c.in-Some-false.ensures.drawn in
    let counts = counts_on _ _ _ _ _ _ c.loop-number.invariant.counts c.in-Value.ensures.counts in
    record {
      leads = leads_on c.loop-number.invariant.leads (refused_leads (gaussian_attempt_proper v.num v.den (c.isqrt-root.result + 1)) (passed, _, laplace, kept));
      counts = counts_on _ _ _ _ _ _ counts c.in-Some-false.ensures.counts;
    }

pub returns-in-None-clause-drawn : goal.returns-in-None-clause-drawn
returns-in-None-clause-drawn g c =
    let v = c.args.variance in
    let t = c.isqrt-root.result + 1 in
    let number = c.in-Value.number in
    let fits : SFits w64 number = search rules in
    let passed = to_z w64 (of_z w64 number) in
    let laplace = laplace_as _ _ _ _ number (to_z-of_z w64 number fits) c.in-Value.ensures.drawn in
    let none = c.in-None.ensures.drawn in
    let unkept = none_kept_as v.num v.den _ _ t passed _ c.num-a.ensures.value c.den-b.ensures.value none.0 in
    let attempt = no_coin_for v.num v.den t _ _ passed laplace unkept in
    (λ x r d. no_attempt (GaussianAttempt v.num v.den t) _ attempt x r (c.loop-number.invariant.leads.to x r d), none.1)
