use Rattle.std.proofs.Common.{rules, ◌≡◌, ◌+◌, [], length, refl, sym, subst, arith, SFits, w64}
use Rattle.std.proofs.lemmas.Int.{to_z-of_z}
use Rattle.tda_noise.specs.Draws.{Passed}
use Rattle.tda_measure.specs.Noise.{IsNumberOf}
use Rattle.tda_measure.proofs.measuring.measure_place.Goals as goal

pub returns-in-OutOfWords-clause-err : goal.returns-in-OutOfWords-clause-err
returns-in-OutOfWords-clause-err g c other =
    let none = c.in-OutOfWords.ensures.drawn in
    let index : c.len.result ≡ length c.args.numbers.now.items + 0 = omega (arith, c.len.ensures) in
    record { before = []; variance = c.args.variance; after = []; cut = refl; numbers = []; rest = g.W.Words.words c.args.w.now; drawn = refl; stops = (index, none.0, none.1) }

pub returns-in-TooLarge-clause-err : goal.returns-in-TooLarge-clause-err
returns-in-TooLarge-clause-err g c other =
    let m = c.in-TooLarge.magnitude in
    let fits : SFits w64 m = search rules in
    let index : c.len-in-TooLarge.result ≡ length c.args.numbers.now.items + 0 = omega (arith, c.len-in-TooLarge.ensures) in
    let passed = subst (λ z. IsNumberOf c.args.variance (g.W.Words.words c.args.w.now) (Passed z) (g.W.Words.words c.gaussian.new.w)) (sym (to_z-of_z w64 m fits)) c.in-TooLarge.ensures.drawn in
    record { before = []; variance = c.args.variance; after = []; cut = refl; numbers = []; rest = g.W.Words.words c.args.w.now; drawn = refl; stops = (index, passed) }
