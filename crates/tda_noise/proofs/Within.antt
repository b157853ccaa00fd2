-- Laplace numbers are within the limit.
use Rattle.std.proofs.Common.{ℕ, zero, suc, ◌≡◌, ◌≤◌, Bool, true, false, List, ℤ, pos, neg_ℤ, nat_abs, inl, inr, refl, ap, arith, ◌∙◌}
use Rattle.std.proofs.Math.Nat.{div-le_self}
use Rattle.tda_noise.specs.Draws.{Gives, Drawn, magnitude_limit, IsSigned, LaplaceAttempt}
use Rattle.tda_noise.proofs.LaplaceDraws.{is_within}

signed_within : (s t : ℕ) (w : List ℕ) (n : ℕ) (b : Bool) (r : List ℕ) → IsSigned s t w n b r → n ≤ magnitude_limit
signed_within s t w n b r d =
    let h = is_within t d.m w d.rest d.magnitude in
    let k = div-le_self d.m s in
    let e = d.part in
    omega arith

negated_abs : (n : ℕ) → nat_abs (neg_ℤ (pos n)) ≡ n
negated_abs zero = refl
negated_abs (suc n) = refl

pub attempt_within : (s t : ℕ) (w : List ℕ) (y : ℤ) (r : List ℕ) → LaplaceAttempt s t w (Gives (Drawn y)) r → nat_abs y ≤ magnitude_limit
attempt_within s t w y r (n, inl d) =
    let h = signed_within s t w n false r d.0 in
    let e : nat_abs y ≡ n = ap nat_abs d.1 in
    omega arith
attempt_within s t w y r (n, inr d) =
    let h = signed_within s t w n true r d.0 in
    let e : nat_abs y ≡ n = ap nat_abs d.2 ∙ negated_abs n in
    omega arith
