use Rattle.std.proofs.Common.{◌≡◌, ℕ, ℤ, ◌+◌, ◌*◌, ◌<◌, ◌≤◌, ◌^◌, ◌+ℤ◌, to_z, of_z, FitsSigned, sym, subst, arith}
use Rattle.std.specs.Int.{w128}
use Rattle.std.proofs.lemmas.Int.{ints, to_z-of_z}
use Rattle.tda_loss.specs.Curve.{value_of, IsWithin}
use Rattle.tda_flow.proofs.Steps.{IsStepped, stepped-none, stepped-more, stepped-all}
use Rattle.tda_flow.proofs.terms.step_cost.Goals as goal

-- the sum that the code makes fits, and is that sum
code_sum : (n : ℕ) (sum more : ℤ) → n < 8 → IsWithin (n * 2 ^ 58) sum → IsWithin (2 ^ 58) more
    → FitsSigned w128 (sum +ℤ to_z w128 (of_z w128 more)) × (to_z w128 (of_z w128 (sum +ℤ to_z w128 (of_z w128 more))) ≡ sum +ℤ more)
code_sum n sum more few a b =
    let more_fits : FitsSigned w128 more = omega (arith, ints, b.low, b.high) in
    let whole : FitsSigned w128 (sum +ℤ more) = omega (arith, ints, a.low, a.high, b.low, b.high) in
    rw (to_z-of_z w128 more more_fits) (whole, to_z-of_z w128 (sum +ℤ more) whole)

pub loop-term-init : goal.loop-term-init
loop-term-init g c = stepped-none (value_of c.args.loss.now.curve) c.args.terms.now c.args.x

pub overflow_add-sum : goal.overflow_add-sum
overflow_add-sum g c =
    (code_sum c.loop-term.term-index (to_z w128 c.loop-term.sum-bits) c.term_step-sum.result (omega (arith, c.requires.terms.few)) c.loop-term.invariant.near c.term_step-sum.ensures.near).0

pub loop-term-preserved : goal.loop-term-preserved
loop-term-preserved g c =
    let curve = value_of c.args.loss.now.curve in
    let more = c.term_step-sum.result in
    let sum = to_z w128 c.loop-term.sum-bits in
    let made = (code_sum c.loop-term.term-index sum more (omega (arith, c.requires.terms.few)) c.loop-term.invariant.near c.term_step-sum.ensures.near).1 in
    subst (λ z. IsStepped curve c.args.terms.now c.args.x (c.loop-term.term-index + 1) z) (sym made)
    (stepped-more curve c.args.terms.now c.args.x c.loop-term.term-index sum more c.loop-term.invariant c.term_step-sum.ensures.value c.term_step-sum.ensures.near)

pub returns-clause-value : goal.returns-clause-value
returns-clause-value g c =
    stepped-all (value_of c.args.loss.now.curve) c.args.terms.now c.args.x c.loop-term.term-index (to_z w128 c.loop-term.sum-bits) c.loop-term.invariant (omega arith)

pub returns-clause-near : goal.returns-clause-near
returns-clause-near g c =
    let n : c.loop-term.term-index ≤ 8 = omega (arith, c.requires.terms.few) in
    let near = c.loop-term.invariant.near in
    record { low = omega (arith, ints, near.low); high = omega (arith, ints, near.high) }
