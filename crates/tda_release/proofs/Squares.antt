-- The curve of squares is the square.
use Rattle.std.proofs.Common.{◌≡◌, ℤ, pos, negsuc, nat_abs, refl}
use Rattle.tda_loss.specs.declared.Curve.TheVariants.{Square}
use Rattle.tda_loss.specs.Curve.{value_of}
use Rattle.tda_model.specs.Deviation.{square}
use Rattle.tda_fitnet.specs.Fits.{curve_of}

square_is : (d : ℤ) → nat_abs (value_of Square d) ≡ square d
unfolding value_of
square_is (pos n) = refl
square_is (negsuc n) = refl

pub curve_is_square : curve_of Square ≡ square
curve_is_square = λ i d. square_is d i
