use Rattle.std.proofs.Common.{◌≡◌, ◌^◌, ◌+ℤ◌, pos, ap, ◌∙◌, arith}
use Rattle.std.proofs.lemmas.Int.{ints}
use Rattle.tda_loss.specs.Curve.{value_of}
use Rattle.tda_loss.proofs.Laws.{IsCurve-value_of, step-within}
use Rattle.tda_loss.proofs.Loss.step.Goals as goal

pub overflow_sub-result : goal.overflow_sub-result
overflow_sub-result g c =
    let f = value_of c.args.self.now.curve in
    let d = c.args.d in
    let after : c.value.result ≡ f (d +ℤ pos 1) = c.value.ensures ∙ ap f (omega (arith, ints)) in
    let before : c.value-2.result ≡ f d = c.value-2.ensures ∙ ap f (omega (arith, ints)) in
    let near = step-within f (2 ^ 32) d (IsCurve-value_of c.args.self.now.curve) c.requires.near in
    omega (arith, ints, near.low, near.high)

pub returns : goal.returns
returns g c =
    let f = value_of c.args.self.now.curve in
    let d = c.args.d in
    let after : c.value.result ≡ f (d +ℤ pos 1) = c.value.ensures ∙ ap f (omega (arith, ints)) in
    let before : c.value-2.result ≡ f d = c.value-2.ensures ∙ ap f (omega (arith, ints)) in
    let near = step-within f (2 ^ 32) d (IsCurve-value_of c.args.self.now.curve) c.requires.near in
    omega (arith, ints, near.low, near.high)
