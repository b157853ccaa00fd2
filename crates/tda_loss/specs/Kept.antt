-- The fact that a loss keeps.
use Rattle.std.specs.Prelude.{◌≡◌, ◌^◌, ℤ}
use Rattle.tda_loss.specs.declared.Curve.{Curve}
use Rattle.tda_loss.specs.declared.Loss.{Loss}
use Rattle.tda_loss.specs.Curve.{value_of, IsWithin}

-- a function that may be called at every distance up to 2^33 either way, and answers the curve's value there
abbrev pub Answers : Curve → (ℤ → Type 0) → (ℤ → ℤ → Type 0) → Type 0
Answers c pre post = (d : ℤ) → IsWithin (2 ^ 33) d → pre d × ((r : ℤ) → post d r → r ≡ value_of c d)

-- the function of a loss answers its curve
abbrev pub IsKept : {F : Type 0} → (F → ℤ → Type 0) → (F → ℤ → ℤ → Type 0) → Loss F → Type 0
IsKept pre post loss = Answers loss.curve (pre loss.eval) (post loss.eval)
