-- One more price within the bounds.
use Rattle.std.proofs.Common.{◌^◌, All, ℤ, List, [], ◌∷◌, ◌++◌, ◌≡◌, sym, subst, arith, FitsSigned, to_z, of_z}
use Rattle.std.proofs.lemmas.Int.{ints, to_z-of_z}
use Rattle.std.specs.Int.{w128}
use Rattle.std.proofs.lemmas.List.Elements.{All-push}
use Rattle.tda_loss.specs.Curve.{IsWithin}

back : (z : ℤ) → IsWithin (2 ^ 88) z → to_z w128 (of_z w128 z) ≡ z
back z h = let fits : FitsSigned w128 z = omega (arith, ints, h.low, h.high) in to_z-of_z w128 z fits

pub near_pushed : (prices new : List ℤ) (z : ℤ) → new ≡ prices ++ to_z w128 (of_z w128 z) ∷ [] → All (IsWithin (2 ^ 88)) prices → IsWithin (2 ^ 88) z → All (IsWithin (2 ^ 88)) new
near_pushed prices new z e old h =
    subst (All (IsWithin (2 ^ 88))) (sym e) (All-push (IsWithin (2 ^ 88)) prices (to_z w128 (of_z w128 z)) old (subst (IsWithin (2 ^ 88)) (sym (back z h)) h))
