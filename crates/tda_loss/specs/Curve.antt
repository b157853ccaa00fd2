-- What a curve gives at a distance, and the laws of curves.
use Rattle.std.specs.Prelude.{ℕ, ◌*◌, ◌+◌, ℤ, pos, neg_ℤ, nat_abs, ◌-ℤ◌, ◌+ℤ◌, ◌*ℤ◌, ◌≤ℤ◌}
use Rattle.tda_loss.specs.declared.Curve.{Curve}
use Rattle.tda_loss.specs.declared.Curve.TheVariants.{Square}

-- the value of a curve at a distance
unfoldable pub value_of : Curve → ℤ → ℤ
value_of Square d = d *ℤ d

-- what one more adds to a function of whole numbers
abbrev pub step : (ℤ → ℤ) → ℤ → ℤ
step f d = f (d +ℤ pos 1) -ℤ f d

-- the number is at most n in absolute value
pub record IsWithin (n : ℕ) (z : ℤ) : Type 0 where
  pub low : neg_ℤ (pos n) ≤ℤ z
  pub high : z ≤ℤ pos n

-- no step of the function is below the one before
abbrev pub IsConvex : (ℤ → ℤ) → Type 0
IsConvex f = (d : ℤ) → step f (d -ℤ pos 1) ≤ℤ step f d

-- the laws of curves: steps don't fall, a value lies from 0 to the square of the distance, and a step is at most
-- twice the distance and one
pub record IsCurve (f : ℤ → ℤ) : Type 0 where
  pub convex : IsConvex f
  pub low : (d : ℤ) → pos 0 ≤ℤ f d
  pub high : (d : ℤ) → f d ≤ℤ (d *ℤ d)
  pub steps : (d : ℤ) → IsWithin (2 * nat_abs d + 1) (step f d)
