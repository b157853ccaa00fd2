use Rattle.std.proofs.Common.{◌≡◌, ◌^◌, ℤ, pos, neg_ℤ, ◌-ℤ◌, to_z, of_z, arith}
use Rattle.std.specs.Int.{w128}
use Rattle.std.proofs.lemmas.Int.{ints}
use Rattle.tda_loss.specs.Curve.{IsWithin}
use Rattle.tda_scale.proofs.Warming.{ceiling}
use Rattle.tda_scale.proofs.warm.least_of.Goals as goal

minus : (q : ℤ) → IsWithin (2 ^ 95) q → to_z w128 (of_z w128 (pos 0 -ℤ to_z w128 (of_z w128 q))) ≡ neg_ℤ q
minus q h = omega (arith, ints, h.low, h.high)

negated : (z : ℤ) → IsWithin (2 ^ 94) z → to_z w128 (of_z w128 (pos 0 -ℤ to_z w128 (of_z w128 z))) ≡ neg_ℤ z
negated z h = omega (arith, ints, h.low, h.high)

pub returns-clause-high : goal.returns-clause-high
returns-clause-high c =
    let f = c.floor_div.ensures in
    let h = f.high in
    let e = negated c.args.z c.requires.near in
    ceiling c.args.z c.floor_div.result _ c.args.n (minus c.floor_div.result f.near) (omega (arith, ints))
