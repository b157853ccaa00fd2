use Rattle.std.proofs.Common.{rules, subst, sym, w64, SFits}
use Rattle.std.proofs.lemmas.Int.{to_z-of_z}
use Rattle.tda_noise.specs.Draws.{IsLaplace, LaplaceAttempt, Refused, Drawn, Passed}
use Rattle.tda_noise.proofs.Counted.{counts_on}
use Rattle.tda_noise.proofs.Peel.{leads_on, refused_leads, no_attempt}
use Rattle.tda_noise.proofs.LaplaceDraws.{laplace_attempt_proper}
use Rattle.tda_noise.proofs.Within.{attempt_within}
use Rattle.tda_noise.proofs.discrete_laplace.laplace.Goals as goal

pub loop-number-smaller : goal.loop-number-smaller
loop-number-smaller g c =
    let attempt = rw c.in-Ok-None.field-0-is at c.in-Ok-None.ensures.drawn in
    (laplace_attempt_proper c.args.s c.args.t).takes _ Refused _ attempt

pub loop-number-preserved : goal.loop-number-preserved
loop-number-preserved g c =
    let attempt = rw c.in-Ok-None.field-0-is at c.in-Ok-None.ensures.drawn in
    record {
      leads = leads_on c.loop-number.invariant.leads (refused_leads (laplace_attempt_proper c.args.s c.args.t) attempt);
      counts = counts_on _ _ _ _ _ _ c.loop-number.invariant.counts c.in-Ok-None.ensures.counts;
    }

pub returns-in-Ok-Some-clause-drawn : goal.returns-in-Ok-Some-clause-drawn
returns-in-Ok-Some-clause-drawn g c =
    let attempt = rw c.in-Ok-Some.field-0-is at c.in-Ok-Some.ensures.drawn in
    let number = c.in-Ok-Some.number in
    let fits : SFits w64 number = search rules in
    subst
    (λ z. IsLaplace c.args.s c.args.t (g.W.Words.words c.args.w.now) (Drawn z) (g.W.Words.words c.laplace_attempt.new.w))
    (sym (to_z-of_z w64 number fits))
    (c.loop-number.invariant.leads.from (Drawn number) _ (0, attempt))

pub returns-in-Ok-Some-clause-within : goal.returns-in-Ok-Some-clause-within
returns-in-Ok-Some-clause-within g c =
    let attempt = rw c.in-Ok-Some.field-0-is at c.in-Ok-Some.ensures.drawn in
    let number = c.in-Ok-Some.number in
    let fits : SFits w64 number = search rules in
    rw (to_z-of_z w64 number fits) (attempt_within c.args.s c.args.t _ number _ attempt)

pub returns-in-Err-TooLarge-clause-drawn : goal.returns-in-Err-TooLarge-clause-drawn
returns-in-Err-TooLarge-clause-drawn g c =
    let attempt = rw c.in-Err-TooLarge.field-0-is at c.in-Err-TooLarge.ensures.drawn in
    let magnitude = c.in-Err-TooLarge.magnitude in
    let fits : SFits w64 magnitude = search rules in
    subst
    (λ z. IsLaplace c.args.s c.args.t (g.W.Words.words c.args.w.now) (Passed z) (g.W.Words.words c.laplace_attempt.new.w))
    (sym (to_z-of_z w64 magnitude fits))
    (c.loop-number.invariant.leads.from (Passed magnitude) _ (0, attempt))

pub returns-in-Err-OutOfWords-clause-drawn : goal.returns-in-Err-OutOfWords-clause-drawn
returns-in-Err-OutOfWords-clause-drawn g c =
    let none = rw c.in-Err-OutOfWords.field-0-is at c.in-Err-OutOfWords.ensures.drawn in
    (λ x r d. no_attempt (LaplaceAttempt c.args.s c.args.t) _ none.0 x r (c.loop-number.invariant.leads.to x r d), none.1)
