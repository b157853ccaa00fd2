-- Uniform numbers: their width, and their draws piece by piece.
use Rattle.std.proofs.Common.{ℕ, zero, suc, ◌≡◌, ◌+◌, ◌-◌, ◌*◌, ◌^◌, ◌<◌, ◌≤◌, List, length, refl, sym, ap, subst, arith, ◌⊎◌, inl, inr}
use Rattle.std.proofs.Math.Pow.{pow_mono}
use Rattle.std.proofs.lemmas.Nat.{leading_length, pow-add}
use Rattle.std.proofs.lemmas.Bool.{cases_lt}
use Rattle.std.specs.Int.Count.{count_leading_zeros}
use Rattle.tda_noise.specs.Draws.{Attempt, Refused, Gives, IsWidth, IsPiece, UniformAttempt, AfterRefusals, FirstGiven, IsUniform, Ends}
use Rattle.tda_noise.proofs.Peel.{IsProper, Leads, leads_on, refused_leads, no_attempt, first_proper}
use Rattle.tda_noise.proofs.Digits.{piece_proper}

width_by : (n m j : ℕ) → 1 ≤ n → 2 ^ m ≤ 2 * (n - 1) + 1 → n ≤ 2 ^ j → (j < m) ⊎ (m ≤ j) → m ≤ j
width_by n m j some top fits (inr h) = h
width_by n m j some top fits (inl h) =
    let e : 2 ^ (1 + j) ≡ 2 ^ 1 * 2 ^ j = pow-add 2 1 j in
    let k : 2 ^ (1 + j) ≤ 2 ^ m = pow_mono {i = 1 + j} {j = m} (omega arith) in
    absurd (omega arith)

width_least : (n m : ℕ) → 1 ≤ n → 2 ^ m ≤ 2 * (n - 1) + 1 → (j : ℕ) → n ≤ 2 ^ j → m ≤ j
width_least n m some top j fits = width_by n m j some top fits (cases_lt j m)

-- the width of n by the leading zeros of n - 1
pub width_is : (n : ℕ) → 1 ≤ n → n ≤ 2 ^ 100 → IsWidth n (128 - count_leading_zeros 128 (n - 1))
width_is n some limit =
    let small : n - 1 < 2 ^ 128 = omega arith in
    let h = leading_length 128 (n - 1) small in
    let e : 128 - count_leading_zeros 128 (n - 1) ≡ h.0 = let s = h.1 in omega arith in
    subst (IsWidth n) (sym e) (record { fits = let a = h.2 in omega arith; least = width_least n h.0 some h.3 })

pub width_same : (n j k : ℕ) → IsWidth n j → IsWidth n k → j ≡ k
width_same n j k a b =
    let h = a.least k b.fits in
    let l = b.least j a.fits in
    omega arith

-- the uniform numbers below n are those of its width
pub uniform_leads : (n k : ℕ) (w : List ℕ) → IsWidth n k → Leads (IsUniform n) w (FirstGiven (UniformAttempt n k)) w
uniform_leads n k w width = record {
  to = λ u r d. subst (λ j. FirstGiven (UniformAttempt n j) w u r) (width_same n d.0 k d.1 width) d.2;
  from = λ u r d. (k, width, d);
}

attempt_value : (n k : ℕ) (w : List ℕ) (x y : Attempt ℕ) (r s : List ℕ) →
    UniformAttempt n k w x r → UniformAttempt n k w y s → (x ≡ y) × (r ≡ s)
attempt_value n k w Refused Refused r s d e = (refl, (piece_proper k).rest w d.0 e.0 r s d.1 e.1)
attempt_value n k w Refused (Gives m) r s d e =
    let q = (piece_proper k).value w d.0 m r s d.1 e.0 in
    let a = d.2 in
    absurd (omega arith)
attempt_value n k w (Gives m) Refused r s d e =
    let q = (piece_proper k).value w m e.0 r s d.0 e.1 in
    let a = e.2 in
    absurd (omega arith)
attempt_value n k w (Gives l) (Gives m) r s d e =
    (ap Gives ((piece_proper k).value w l m r s d.0 e.0), (piece_proper k).rest w l m r s d.0 e.0)

attempt_takes : (n k : ℕ) (w : List ℕ) (x : Attempt ℕ) (r : List ℕ) → UniformAttempt n k w x r → length r < length w
attempt_takes n k w Refused r d = (piece_proper k).takes w d.0 r d.1
attempt_takes n k w (Gives m) r d = (piece_proper k).takes w m r d.0

pub attempt_proper : (n k : ℕ) → IsProper (UniformAttempt n k)
attempt_proper n k = record {
  value = λ w x y r s d e. (attempt_value n k w x y r s d e).0;
  rest = λ w x y r s d e. (attempt_value n k w x y r s d e).1;
  takes = attempt_takes n k;
}

uniform_both : (n : ℕ) (w : List ℕ) (u v : ℕ) (r s : List ℕ) → IsUniform n w u r → IsUniform n w v s → (u ≡ v) × (r ≡ s)
uniform_both n w u v r s d e =
    let f = (uniform_leads n d.0 w d.1).to v s e in
    let one = first_proper (attempt_proper n d.0) in
    (one.value w u v r s d.2 f, one.rest w u v r s d.2 f)

pub uniform_proper : (n : ℕ) → IsProper (IsUniform n)
uniform_proper n = record {
  value = λ w u v r s d e. (uniform_both n w u v r s d e).0;
  rest = λ w u v r s d e. (uniform_both n w u v r s d e).1;
  takes = λ w u r d. (first_proper (attempt_proper n d.0)).takes w u r d.2;
}

-- a piece whose number isn't below n is peeled off
pub piece_refused : (n k m : ℕ) (before w v : List ℕ) → Leads (IsUniform n) before (FirstGiven (UniformAttempt n k)) w →
    IsPiece k w m v → n ≤ m → Leads (IsUniform n) before (FirstGiven (UniformAttempt n k)) v
piece_refused n k m before w v h piece large = leads_on h (refused_leads (attempt_proper n k) (m, piece, large))

pub piece_given : (n k m : ℕ) (before w v : List ℕ) → Leads (IsUniform n) before (FirstGiven (UniformAttempt n k)) w →
    IsPiece k w m v → m < n → IsUniform n before m v
piece_given n k m before w v h piece small = h.from m v (0, (piece, small))

no_uniform_attempt : (n k : ℕ) (w : List ℕ) → Ends (IsPiece k) w → (x : Attempt ℕ) (r : List ℕ) → UniformAttempt n k w x r → ⊥
no_uniform_attempt n k w none Refused r d = none d.0 r d.1
no_uniform_attempt n k w none (Gives m) r d = none m r d.0

pub piece_missing : (n k : ℕ) (before w : List ℕ) → Leads (IsUniform n) before (FirstGiven (UniformAttempt n k)) w →
    Ends (IsPiece k) w → Ends (IsUniform n) before
piece_missing n k before w h none u r d = no_attempt (UniformAttempt n k) w (no_uniform_attempt n k w none) u r (h.to u r d)

-- a uniform number is below n
given_below : (n k : ℕ) (w : List ℕ) (u : ℕ) (r : List ℕ) (refusals : ℕ) → AfterRefusals (UniformAttempt n k) refusals w u r → u < n
given_below n k w u r zero d = d.1
given_below n k w u r (suc refusals) d = given_below n k d.0 u r refusals d.2

pub is_below : (n : ℕ) (w : List ℕ) (u : ℕ) (r : List ℕ) → IsUniform n w u r → u < n
is_below n w u r d = given_below n d.0 w u r d.2.0 d.2.1
