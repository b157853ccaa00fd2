-- Gaussian numbers: their attempts, of which at most one stands at the front of any words.
use Rattle.std.proofs.Common.{ℕ, ◌≡◌, ◌+◌, ◌*◌, ◌/◌, ◌-◌, ◌<◌, ◌≤◌, ◌^◌, ◌⊎◌, inl, inr, Bool, true, false, Option, List, length, ℤ, pos, ◌-ℤ◌, nat_abs, refl, sym, ap, subst, arith}
use Rattle.std.proofs.lemmas.Bool.{cases_lt, false≢true}
use Rattle.std.proofs.Math.Nat.{mul-le-mul_right}
use Rattle.tda_noise.specs.Draws.{Ends, Attempt, Refused, Gives, Outcome, Drawn, Passed, IsExponential, IsLaplace, FirstGiven, IsScale, IsKept, GaussianAttempt, IsGaussian}
use Rattle.tda_noise.specs.Answers.{Answers}
use Rattle.tda_noise.proofs.Peel.{IsProper, Leads}
use Rattle.tda_noise.proofs.CoinDraws.{exponential_proper}
use Rattle.tda_noise.proofs.LaplaceDraws.{laplace_proper}
use Rattle.tda_noise.proofs.Scales.{square_is, mul_within, scale_is}

-- one scale at most
scale_below : (a b s t : ℕ) → IsScale a b s → IsScale a b t → (s < t) ⊎ (t ≤ s) → t ≤ s
scale_below a b s t h k (inr l) = l
scale_below a b s t h k (inl l) =
    let low : (t - 1) * (t - 1) * b ≤ a = rw (← square_is (t - 1)) k.low in
    let high : a < s * s * b = rw (← square_is s) h.high in
    let some : s ≤ t - 1 = omega arith in
    let m : s * s ≤ (t - 1) * (t - 1) = mul_within s s (t - 1) (t - 1) some some in
    let n : s * s * b ≤ (t - 1) * (t - 1) * b = mul-le-mul_right b m in
    absurd (omega arith)

pub scale_same : (a b s t : ℕ) → IsScale a b s → IsScale a b t → s ≡ t
scale_same a b s t h k =
    let l = scale_below a b s t h k (cases_lt s t) in
    let m = scale_below a b t s k h (cases_lt t s) in
    omega arith

-- the numbers of a variance are those of its scale
pub gaussian_leads : (a b t : ℕ) (w : List ℕ) → IsScale a b t → Leads (IsGaussian a b) w (FirstGiven (GaussianAttempt a b t)) w
gaussian_leads a b t w scale = record {
  to = λ o r d. subst (λ s. FirstGiven (GaussianAttempt a b s) w o r) (scale_same a b d.0 t d.1 scale) d.2;
  from = λ o r d. (t, scale, d);
}

-- one attempt at most
kept_both : (a b t : ℕ) (w : List ℕ) (x y : ℤ) (u v : List ℕ) (g h : Bool) (r s : List ℕ) →
    IsLaplace 1 t w (Drawn x) u → IsLaplace 1 t w (Drawn y) v → IsKept a b t x u g r → IsKept a b t y v h s → (x ≡ y) × (g ≡ h) × (r ≡ s)
kept_both a b t w x y u v g h r s d e k l =
    let n = (laplace_proper 1 t).value w (Drawn y) (Drawn x) v u e d in
    let q = (laplace_proper 1 t).rest w (Drawn y) (Drawn x) v u e d in
    let same : y ≡ x = cc in
    let f = subst (λ z. IsKept a b t z v h s) same l in
    let j = subst (λ z. IsKept a b t x z h s) q f in
    let one = exponential_proper (nat_abs (pos (nat_abs x * t * b) -ℤ pos a) ^ 2) (2 * a * b * t ^ 2) in
    (sym same, one.value u g h r s k j, one.rest u g h r s k j)

attempt_both : (a b t : ℕ) (w : List ℕ) (x y : Attempt (Outcome ℤ)) (r s : List ℕ) → GaussianAttempt a b t w x r → GaussianAttempt a b t w y s → (x ≡ y) × (r ≡ s)
attempt_both a b t w Refused Refused r s d e = (refl, (kept_both a b t w d.0 e.0 d.1 e.1 false false r s d.2 e.2 d.3 e.3).2)
attempt_both a b t w Refused (Gives (Drawn y)) r s d e = absurd (false≢true (kept_both a b t w d.0 y d.1 e.0 false true r s d.2 e.1 d.3 e.2).1)
attempt_both a b t w Refused (Gives (Passed m)) r s d e =
    let k = (laplace_proper 1 t).value w (Drawn d.0) (Passed m) d.1 s d.2 e in cc
attempt_both a b t w (Gives (Drawn x)) Refused r s d e = absurd (false≢true (kept_both a b t w e.0 x e.1 d.0 false true s r e.2 d.1 e.3 d.2).1)
attempt_both a b t w (Gives (Drawn x)) (Gives (Drawn y)) r s d e =
    let k = kept_both a b t w x y d.0 e.0 true true r s d.1 e.1 d.2 e.2 in
    (ap (λ z. Gives (Drawn z)) k.0, k.2)
attempt_both a b t w (Gives (Drawn x)) (Gives (Passed m)) r s d e =
    let k = (laplace_proper 1 t).value w (Drawn x) (Passed m) d.0 s d.1 e in cc
attempt_both a b t w (Gives (Passed m)) Refused r s d e =
    let k = (laplace_proper 1 t).value w (Passed m) (Drawn e.0) r e.1 d e.2 in cc
attempt_both a b t w (Gives (Passed m)) (Gives (Drawn y)) r s d e =
    let k = (laplace_proper 1 t).value w (Passed m) (Drawn y) r e.0 d e.1 in cc
attempt_both a b t w (Gives (Passed m)) (Gives (Passed n)) r s d e =
    (ap Gives ((laplace_proper 1 t).value w (Passed m) (Passed n) r s d e), (laplace_proper 1 t).rest w (Passed m) (Passed n) r s d e)

kept_takes : (a b t : ℕ) (w : List ℕ) (y : ℤ) (u : List ℕ) (g : Bool) (r : List ℕ) → IsLaplace 1 t w (Drawn y) u → IsKept a b t y u g r → length r < length w
kept_takes a b t w y u g r d k =
    let h = (laplace_proper 1 t).takes w (Drawn y) u d in
    let l = (exponential_proper (nat_abs (pos (nat_abs y * t * b) -ℤ pos a) ^ 2) (2 * a * b * t ^ 2)).takes u g r k in
    omega arith

attempt_takes : (a b t : ℕ) (w : List ℕ) (x : Attempt (Outcome ℤ)) (r : List ℕ) → GaussianAttempt a b t w x r → length r < length w
attempt_takes a b t w Refused r d = kept_takes a b t w d.0 d.1 false r d.2 d.3
attempt_takes a b t w (Gives (Drawn y)) r d = kept_takes a b t w y d.0 true r d.1 d.2
attempt_takes a b t w (Gives (Passed m)) r d = (laplace_proper 1 t).takes w (Passed m) r d

pub gaussian_attempt_proper : (a b t : ℕ) → IsProper (GaussianAttempt a b t)
gaussian_attempt_proper a b t = record {
  value = λ w x y r s d e. (attempt_both a b t w x y r s d e).0;
  rest = λ w x y r s d e. (attempt_both a b t w x y r s d e).1;
  takes = attempt_takes a b t;
}

-- where the words end before the Laplace number, or before the coin that keeps it
pub no_laplace : (a b t : ℕ) (w : List ℕ) → Ends (IsLaplace 1 t) w → Ends (GaussianAttempt a b t) w
no_laplace a b t w none Refused r d = none (Drawn d.0) d.1 d.2
no_laplace a b t w none (Gives (Drawn y)) r d = none (Drawn y) d.0 d.1
no_laplace a b t w none (Gives (Passed m)) r d = none (Passed m) r d

not_kept_by : (a b t : ℕ) (w v : List ℕ) (y : ℤ) → IsLaplace 1 t w (Drawn y) v → Ends (IsKept a b t y) v →
    (x : ℤ) (u : List ℕ) (g : Bool) (r : List ℕ) → IsLaplace 1 t w (Drawn x) u → IsKept a b t x u g r → ⊥
not_kept_by a b t w v y h none x u g r d k =
    let n = (laplace_proper 1 t).value w (Drawn x) (Drawn y) u v d h in
    let q = (laplace_proper 1 t).rest w (Drawn x) (Drawn y) u v d h in
    let same : x ≡ y = cc in
    none g r (subst (λ z. IsKept a b t y z g r) q (subst (λ z. IsKept a b t z u g r) same k))

pub no_coin_for : (a b t : ℕ) (w v : List ℕ) (y : ℤ) → IsLaplace 1 t w (Drawn y) v → Ends (IsKept a b t y) v → Ends (GaussianAttempt a b t) w
no_coin_for a b t w v y h none Refused r d = not_kept_by a b t w v y h none d.0 d.1 false r d.2 d.3
no_coin_for a b t w v y h none (Gives (Drawn x)) r d = not_kept_by a b t w v y h none x d.0 true r d.1 d.2
no_coin_for a b t w v y h none (Gives (Passed m)) r d =
    let k = (laplace_proper 1 t).value w (Passed m) (Drawn y) r v d h in cc

-- a coin of equal numbers
pub answers_at : (n m d e : ℕ) → n ≡ m → d ≡ e → (answer : Option Bool) (w v : List ℕ) →
    Answers (IsExponential n d) answer w v → Answers (IsExponential m e) answer w v
answers_at n m d e p q answer w v h =
    subst (λ x. Answers (IsExponential m x) answer w v) q (subst (λ x. Answers (IsExponential x d) answer w v) p h)

-- the same variance and number by other names
pub laplace_as : (t : ℕ) (w r : List ℕ) (x y : ℤ) → x ≡ y → IsLaplace 1 t w (Drawn y) r → IsLaplace 1 t w (Drawn x) r
laplace_as t w r x y e h = subst (λ z. IsLaplace 1 t w (Drawn z) r) (sym e) h

pub passed_as : (t : ℕ) (w r : List ℕ) (x y : ℤ) → x ≡ y → IsLaplace 1 t w (Passed y) r → IsLaplace 1 t w (Passed x) r
passed_as t w r x y e h = subst (λ z. IsLaplace 1 t w (Passed z) r) (sym e) h

pub kept_as : (a b c d t : ℕ) (y : ℤ) (w r : List ℕ) (g h : Bool) → c ≡ a → d ≡ b → g ≡ h → IsKept c d t y w g r → IsKept a b t y w h r
kept_as a b c d t y w r g h p q e k =
    subst (λ x. IsKept a b t y w x r) e (subst (λ x. IsKept a x t y w g r) q (subst (λ x. IsKept x d t y w g r) p k))

pub none_kept_as : (a b c d t : ℕ) (y : ℤ) (w : List ℕ) → c ≡ a → d ≡ b → Ends (IsKept c d t y) w → Ends (IsKept a b t y) w
none_kept_as a b c d t y w p q none g r k = none g r (kept_as c d a b t y w r g g (sym p) (sym q) refl k)

-- the scale as it is computed
pub scale_as : (a b c d r : ℕ) → c ≡ a → d ≡ b → 1 ≤ b → r * r ≤ c / d → c / d < (r + 1) * (r + 1) → IsScale a b (r + 1)
scale_as a b c d r p q some low high =
    let e : c / d ≡ a / b = cc in
    scale_is a b r some (rw e at low) (rw e at high)
