use Rattle.std.proofs.Common.{◌≡◌, ◌^◌, ◌*ℤ◌, FitsSigned, ◌∙◌, arith}
use Rattle.std.specs.Int.{w128}
use Rattle.std.proofs.lemmas.Int.{ints, to_z-of_z}
use Rattle.tda_loss.specs.Curve.{value_of}
use Rattle.tda_loss.specs.declared.Curve.TheVariants.{Square}
use Rattle.tda_loss.proofs.Laws.{value_of-within}
use Rattle.tda_loss.proofs.square.Goals as goal

pub overflow_mul-result : goal.overflow_mul-result
unfolding value_of
overflow_mul-result c =
    let d = c.args.d in
    let first : c.from.result ≡ d = c.from.ensures ∙ omega (arith, ints) in
    let second : c.from-2.result ≡ d = c.from-2.ensures ∙ omega (arith, ints) in
    let near = value_of-within Square (2 ^ 33) d c.requires in
    let whole : FitsSigned w128 d = omega (arith, ints) in
    rw (first, second) (simp (to_z-of_z w128 d whole) (omega (arith, ints, near.0, near.1)))

pub returns : goal.returns
unfolding value_of
returns c =
    let d = c.args.d in
    let first : c.from.result ≡ d = c.from.ensures ∙ omega (arith, ints) in
    let second : c.from-2.result ≡ d = c.from-2.ensures ∙ omega (arith, ints) in
    let near = value_of-within Square (2 ^ 33) d c.requires in
    let whole : FitsSigned w128 d = omega (arith, ints) in
    let product : FitsSigned w128 (d *ℤ d) = omega (arith, ints, near.0, near.1) in
    rw (first, second) (simp to_z-of_z)
