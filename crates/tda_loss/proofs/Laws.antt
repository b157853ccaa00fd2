-- Each curve keeps the laws of curves.
use Rattle.std.proofs.Common.{◌≡◌, ℕ, suc, ◌+◌, ◌*◌, ◌≤◌, ℤ, pos, negsuc, ◌+ℤ◌, ◌-ℤ◌, ◌*ℤ◌, nat_abs, ◌≤ℤ◌, arith}
use Rattle.std.proofs.lemmas.Int.{ints}
use Rattle.std.proofs.Math.Nat.{mul-le-mul}
use Rattle.tda_loss.proofs.Ring.{add-mul, mul-add}
use Rattle.tda_loss.specs.declared.Curve.{Curve}
use Rattle.tda_loss.specs.declared.Curve.TheVariants.{Square}
use Rattle.tda_loss.specs.Curve.{value_of, step, IsWithin, IsConvex, IsCurve}

square-add-one : (d : ℤ) → (d +ℤ pos 1) *ℤ (d +ℤ pos 1) ≡ d *ℤ d +ℤ d +ℤ d +ℤ pos 1
square-add-one d = omega (arith, ints, add-mul d (pos 1) (d +ℤ pos 1), mul-add d d (pos 1))

square-convex : IsConvex (λ d. d *ℤ d)
square-convex d =
    let e : d -ℤ pos 1 +ℤ pos 1 ≡ d = omega (arith, ints) in
    rw e (omega (arith, ints, square-add-one d, rw e at (square-add-one (d -ℤ pos 1))))

square-low : (d : ℤ) → pos 0 ≤ℤ (d *ℤ d)
square-low (pos k) = omega (arith, ints)
square-low (negsuc k) = omega (arith, ints)

square-step : (d : ℤ) → IsWithin (2 * nat_abs d + 1) ((d +ℤ pos 1) *ℤ (d +ℤ pos 1) -ℤ d *ℤ d)
square-step d = record {
  low = omega (arith, ints, square-add-one d);
  high = omega (arith, ints, square-add-one d);
}

-- each curve keeps the laws
pub IsCurve-value_of : (c : Curve) → IsCurve (value_of c)
unfolding value_of
IsCurve-value_of Square = record {
  convex = square-convex;
  low = square-low;
  high = λ d. omega (arith, ints);
  steps = square-step;
}

-- the square of a number within n
pub square-within : (n : ℕ) (d : ℤ) → IsWithin n d → (d *ℤ d) ≤ℤ pos (n * n)
square-within n (pos k) h =
    let l : k ≤ n = omega (arith, ints, h.high) in
    omega (arith, ints, mul-le-mul l l)
square-within n (negsuc k) h =
    let l : suc k ≤ n = omega (arith, ints, h.low) in
    omega (arith, ints, mul-le-mul l l)

-- a value at a distance within n
pub value_of-within : (c : Curve) (n : ℕ) (d : ℤ) → IsWithin n d → (pos 0 ≤ℤ value_of c d) × (value_of c d ≤ℤ pos (n * n))
value_of-within c n d h =
    let laws = IsCurve-value_of c in
    (laws.low d, omega (arith, ints, laws.high d, square-within n d h))

-- a step at a distance within n
pub step-within : (f : ℤ → ℤ) (n : ℕ) (d : ℤ) → IsCurve f → IsWithin n d → IsWithin (2 * n + 1) (step f d)
step-within f n d laws h =
    let s = laws.steps d in
    record { low = omega (arith, ints, s.low, h.low, h.high); high = omega (arith, ints, s.high, h.low, h.high) }
