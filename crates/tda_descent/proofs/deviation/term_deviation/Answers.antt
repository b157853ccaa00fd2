use Rattle.std.proofs.Common.{◌≡◌, ℕ, ℤ, ◌≤◌, ◌^◌, ◌-ℤ◌, pos, to_z, of_z, arith}
use Rattle.std.specs.Int.{w64}
use Rattle.std.proofs.lemmas.Int.{ints}
use Rattle.tda_loss.specs.Curve.{IsWithin}
use Rattle.tda_descent.proofs.Values.{term_is}
use Rattle.tda_descent.proofs.deviation.term_deviation.Goals as goal

-- the distance, as the code makes it
distance : (x : ℕ) (t : ℤ) → x ≤ 2 ^ 30 → IsWithin (2 ^ 31) t → to_z w64 (of_z w64 (to_z w64 x -ℤ to_z w64 (of_z w64 t))) ≡ pos x -ℤ t
distance x t few near = omega (arith, ints, near.low, near.high)

pub overflow_mul-result : goal.overflow_mul-result
overflow_mul-result g c =
    let t = c.args.term in
    let d = distance c.args.x t.target c.requires.few c.requires.term.target in
    let few = (term_is c.args.loss.now.curve t c.args.x c.from.result c.unsigned_abs.result _ c.value.result c.requires.term c.requires.few c.from.ensures d c.value.ensures c.unsigned_abs.ensures.value).1 in
    omega arith

pub returns-clause-value : goal.returns-clause-value
returns-clause-value g c =
    let t = c.args.term in
    let d = distance c.args.x t.target c.requires.few c.requires.term.target in
    (term_is c.args.loss.now.curve t c.args.x c.from.result c.unsigned_abs.result _ c.value.result c.requires.term c.requires.few c.from.ensures d c.value.ensures c.unsigned_abs.ensures.value).0

pub returns-clause-limit : goal.returns-clause-limit
returns-clause-limit g c =
    let t = c.args.term in
    let d = distance c.args.x t.target c.requires.few c.requires.term.target in
    (term_is c.args.loss.now.curve t c.args.x c.from.result c.unsigned_abs.result _ c.value.result c.requires.term c.requires.few c.from.ensures d c.value.ensures c.unsigned_abs.ensures.value).1
