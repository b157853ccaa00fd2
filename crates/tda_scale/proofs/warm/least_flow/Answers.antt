use Rattle.std.proofs.Common.{◌≡◌, ◌^◌, ◌*◌, ℤ, pos, ◌+ℤ◌, ◌*ℤ◌, ◌≤ℤ◌, to_z, of_z, sym, subst, ◌∙◌, arith}
use Rattle.std.specs.Int.{w128}
use Rattle.std.proofs.lemmas.Int.{ints, to_z-of_z}
use Rattle.tda_loss.specs.Curve.{IsWithin}
use Rattle.tda_scale.proofs.Warming.{meets, least_up, least_down}
use Rattle.tda_scale.proofs.warm.least_flow.Goals as goal

-- a number, as the code passes it on
same : (z : ℤ) → IsWithin (2 ^ 96) z → to_z w128 (of_z w128 z) ≡ z
same z h = to_z-of_z w128 z (omega (arith, ints, h.low, h.high))

wide : (z : ℤ) → IsWithin (2 ^ 94) z → IsWithin (2 ^ 96) z
wide z h = record { low = omega (arith, ints, h.low); high = omega (arith, ints, h.high) }

pub nearest-requires-clause-least : goal.nearest-requires-clause-least
nearest-requires-clause-least c =
    let r = c.rest_of-rest in
    let l = c.least_of-least in
    let m = c.most_of-most in
    rw (same l.result l.ensures.near, same m.result m.ensures.near) (meets _ l.result m.result (2 * c.args.slope.weight) l.ensures.high m.ensures.low)

pub returns-then-slope-gt0-clause-up : goal.returns-then-slope-gt0-clause-up
returns-then-slope-gt0-clause-up c room =
    let r = c.rest_of-rest in
    let l = c.least_of-least in
    let e = same r.result (wide r.result r.ensures.near) in
    let k = same l.result l.ensures.near in
    least_up c.args.slope c.args.gap _ _ c.nearest.result
    (e ∙ r.ensures.value ∙ (let g = c.requires.gap in let p = c.requires.slope.near in omega (arith, ints, g.low, g.high, p.low, p.high)))
    (subst (λ z. to_z w128 (of_z w128 r.result) ≤ℤ (pos (2 * c.args.slope.weight) *ℤ z)) (sym k) l.ensures.low) (c.nearest.ensures.up (omega arith))

pub returns-then-slope-gt0-clause-down : goal.returns-then-slope-gt0-clause-down
returns-then-slope-gt0-clause-down c room =
    let r = c.rest_of-rest in
    let m = c.most_of-most in
    let e = same r.result (wide r.result r.ensures.near) in
    let k = same m.result m.ensures.near in
    least_down c.args.slope c.args.gap _ _ c.nearest.result (omega arith)
    (e ∙ r.ensures.value ∙ (let g = c.requires.gap in let p = c.requires.slope.near in omega (arith, ints, g.low, g.high, p.low, p.high)))
    (subst (λ z. (pos (2 * c.args.slope.weight) *ℤ z) ≤ℤ (to_z w128 (of_z w128 r.result) +ℤ pos (2 * c.args.slope.weight))) (sym k) m.ensures.high) (c.nearest.ensures.down (omega arith))
