use Rattle.std.proofs.Common.{◌≡◌, ◌^◌, ℤ, pos, ◌+ℤ◌, to_z, of_z, arith}
use Rattle.std.specs.Int.{w128}
use Rattle.std.proofs.lemmas.Int.{ints}
use Rattle.tda_loss.specs.Curve.{IsWithin}
use Rattle.tda_scale.proofs.Warming.{one_past}
use Rattle.tda_scale.proofs.warm.most_of.Goals as goal

plus : (q : ℤ) → IsWithin (2 ^ 95) q → to_z w128 (of_z w128 (to_z w128 (of_z w128 q) +ℤ pos 1)) ≡ q +ℤ pos 1
plus q h = omega (arith, ints, h.low, h.high)

same : (z : ℤ) → IsWithin (2 ^ 94) z → to_z w128 (of_z w128 z) ≡ z
same z h = omega (arith, ints, h.low, h.high)

pub returns-clause-low : goal.returns-clause-low
returns-clause-low c =
    let f = c.floor_div.ensures in
    (one_past c.args.z c.floor_div.result _ c.args.n (plus c.floor_div.result f.near) (let e = same c.args.z c.requires.near in let l = f.low in omega (arith, ints)) (let e = same c.args.z c.requires.near in let l = f.high in omega (arith, ints))).0

pub returns-clause-high : goal.returns-clause-high
returns-clause-high c =
    let f = c.floor_div.ensures in
    (one_past c.args.z c.floor_div.result _ c.args.n (plus c.floor_div.result f.near) (let e = same c.args.z c.requires.near in let l = f.low in omega (arith, ints)) (let e = same c.args.z c.requires.near in let l = f.high in omega (arith, ints))).1
