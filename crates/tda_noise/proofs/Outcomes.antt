-- Each list of words comes to exactly one draw with one rest, or to none.
use Rattle.std.proofs.Common.{ℕ, zero, suc, ◌≡◌, ◌+◌, ◌-◌, ◌*◌, ◌/◌, ◌%◌, ◌^◌, ◌<◌, ◌≤◌, ◌⊎◌, ◌↔◌, IsTrue, List, length, take, drop, length-append, length-take, take-append-drop, Bool, true, false, refl, ap, sym, subst, neg_ℤ, arith, inl, inr, pow-suc, pow_mono, ℤ, pos}
use Rattle.std.proofs.lemmas.Nat.{pow_pos}
use Rattle.std.proofs.Math.Nat.{mul-lt-mul_of_pos_right, pow-lt-pow_left}
use Rattle.std.proofs.lemmas.Bool.{cases_lt}
use Rattle.tda_noise.specs.Draws.{Drawing, Ends, Attempt, Refused, Gives, FirstGiven, IsWidth, IsPiece, words_for, number_of, UniformAttempt, IsUniform, IsCoin, IsSmallExponential, IsOneOverE, IsExponential, Outcome, Drawn, Passed, magnitude_limit, IsMagnitude, Begins, MagnitudeAttempt, IsSigned, LaplaceAttempt, IsLaplace, IsScale, IsKept, GaussianAttempt, IsGaussian}
use Rattle.tda_noise.specs.Outcomes.{Comes, ComesToOne}
use Rattle.tda_noise.proofs.Peel.{IsProper, Leads, refused_leads, no_attempt, first_proper}
use Rattle.tda_noise.proofs.UniformDraws.{uniform_proper, attempt_proper, uniform_leads}
use Rattle.tda_noise.proofs.CoinDraws.{coin_proper, one_over_e_proper, exponential_proper, SmallFrom, small_true, small_false, small_none, small_start, LargeFrom, large_start, large_true, large_false, large_none, large_end}
use Rattle.tda_noise.proofs.LaplaceDraws.{MagnitudeFrom, magnitude_start, true_magnitude, false_magnitude, passed_magnitude, no_magnitude, no_u, no_u_coin, no_u_magnitude, no_magnitude_attempt, no_sign, sign_is, laplace_attempt_proper, laplace_proper}
use Rattle.tda_noise.proofs.GaussianDraws.{gaussian_attempt_proper, gaussian_leads, no_laplace, no_coin_for}

one : {A : Type 0} {Draws : Drawing A} → IsProper Draws → ((w : List ℕ) → Comes Draws w) → ComesToOne Draws
one proper some = record { some = some; value = proper.value; rest = proper.rest; takes = proper.takes }

-- what the words after come to the words before come to
back : {A : Type 0} {D E : Drawing A} {w v : List ℕ} → Leads D w E v → Comes E v → Comes D w
back h (inl e) = inl (e.0, e.1, h.from e.0 e.1 e.2)
back h (inr ends) = inr (λ x r d. ends x r (h.to x r d))

-- rejection sampling: each attempt takes a word, so it comes to an end
module _ {A : Type 0} {Try : Drawing (Attempt A)} (proper : IsProper Try) (some : (w : List ℕ) → Comes Try w) where
  given_from : (most : ℕ) → ((w : List ℕ) → length w < most → Comes (FirstGiven Try) w) → (w : List ℕ) → length w < suc most
      → Comes Try w → Comes (FirstGiven Try) w
  given_from most later w l (inr ends) = inr (no_attempt Try w ends)
  given_from most later w l (inl (Gives x, r, h)) = inl (x, r, (0, h))
  given_from most later w l (inl (Refused, r, h)) =
      let less = proper.takes w Refused r h in back (refused_leads proper h) (later r (omega arith))

  given_within : (most : ℕ) (w : List ℕ) → length w < most → Comes (FirstGiven Try) w
  given_within zero w l = absurd (omega arith)
  given_within (suc most) w l = given_from most (given_within most) w l (some w)

  given_comes : (w : List ℕ) → Comes (FirstGiven Try) w
  given_comes w = given_within (suc (length w)) w (omega arith)

piece_by : (k : ℕ) (w : List ℕ) → (length w < words_for k) ⊎ (words_for k ≤ length w) → Comes (IsPiece k) w
piece_by k w (inl few) =
    inr (λ m r h. let l = length-append h.piece r in let n = h.words in let c = ap length h.cut in omega arith)
piece_by k w (inr many) = inl (
  number_of (take (words_for k) w) % 2 ^ k,
  drop (words_for k) w,
  record {
    piece = take (words_for k) w;
    cut = sym (take-append-drop (words_for k) w);
    words = let l = length-take (words_for k) w in omega arith;
    number = refl;
  },
)

attempt_by : (n k : ℕ) (w : List ℕ) (m : ℕ) (r : List ℕ) → IsPiece k w m r → (m < n) ⊎ (n ≤ m) → Comes (UniformAttempt n k) w
attempt_by n k w m r h (inl less) = inl (Gives m, r, (h, less))
attempt_by n k w m r h (inr most) = inl (Refused, r, (m, h, most))

no_piece : (n k : ℕ) (w : List ℕ) → Ends (IsPiece k) w → Ends (UniformAttempt n k) w
no_piece n k w ends Refused r h = ends h.0 r h.1
no_piece n k w ends (Gives m) r h = ends m r h.0

uniform_attempt_from : (n k : ℕ) (w : List ℕ) → Comes (IsPiece k) w → Comes (UniformAttempt n k) w
uniform_attempt_from n k w (inl h) = attempt_by n k w h.0 h.1 h.2 (cases_lt h.0 n)
uniform_attempt_from n k w (inr ends) = inr (no_piece n k w ends)

uniform_attempt_comes : (n k : ℕ) (w : List ℕ) → Comes (UniformAttempt n k) w
uniform_attempt_comes n k w = uniform_attempt_from n k w (piece_by k w (cases_lt (length w) (words_for k)))

wider_by : (n k j : ℕ) → 2 ^ k < suc n → suc n ≤ 2 ^ j → (k < j) ⊎ (j ≤ k) → k < j
wider_by n k j h l (inl less) = less
wider_by n k j h l (inr most) = let up = pow_mono most in absurd (omega arith)

next_width : (n k : ℕ) → IsWidth n k → (2 ^ k < suc n) ⊎ (suc n ≤ 2 ^ k) → (j : ℕ) × IsWidth (suc n) j
next_width n k width (inr fits) = (k, record { fits = fits; least = λ j h. width.least j (omega arith) })
next_width n k width (inl more) = (
  suc k,
  record {
    fits = let some = pow_pos k in let double = pow-suc 2 k in let fits = width.fits in omega arith;
    least = λ j h. wider_by n k j more h (cases_lt k j);
  },
)

width_of : (n : ℕ) → (k : ℕ) × IsWidth n k
width_of zero = (0, record { fits = omega arith; least = λ j h. omega arith })
width_of (suc n) = let k = width_of n in next_width n k.0 k.1 (cases_lt (2 ^ k.0) (suc n))

uniform_comes : (n : ℕ) (w : List ℕ) → Comes (IsUniform n) w
uniform_comes n w =
    let k = width_of n in
    back (uniform_leads n k.0 w k.1) (given_comes (attempt_proper n k.0) (uniform_attempt_comes n k.0) w)

coin_by : (n d : ℕ) (w : List ℕ) (u : ℕ) (r : List ℕ) → IsUniform d w u r → (u < n) ⊎ (n ≤ u) → Comes (IsCoin n d) w
coin_by n d w u r h (inl less) = inl (true, r, (u, h, (λ _. less, λ _. refl)))
coin_by n d w u r h (inr most) = inl (false, r, (u, h, (λ e. cc, λ less. absurd (omega arith))))

coin_from : (n d : ℕ) (w : List ℕ) → Comes (IsUniform d) w → Comes (IsCoin n d) w
coin_from n d w (inl h) = coin_by n d w h.0 h.1 h.2 (cases_lt h.0 n)
coin_from n d w (inr ends) = inr (λ b r h. ends h.0 r h.1)

coin_comes : (n d : ℕ) (w : List ℕ) → Comes (IsCoin n d) w
coin_comes n d w = coin_from n d w (uniform_comes d w)

odd_by : (i : ℕ) → (i % 2 < 1) ⊎ (1 ≤ i % 2) → (b : Bool) × (IsTrue b ↔ (i % 2 ≡ 1))
odd_by i (inl h) = (false, (λ e. cc, λ e. absurd (omega arith)))
odd_by i (inr h) = (true, (λ e. omega arith, λ e. refl))

odd_or_not : (i : ℕ) → (b : Bool) × (IsTrue b ↔ (i % 2 ≡ 1))
odd_or_not i = odd_by i (cases_lt (i % 2) 1)

-- a small exponential coin from its i-th toss on
small_from : (n d most : ℕ) → ((i : ℕ) (w : List ℕ) → length w < most → Comes (SmallFrom n d i) w) → (i : ℕ) (w : List ℕ)
    → length w < suc most → Comes (IsCoin n (d * i)) w → Comes (SmallFrom n d i) w
small_from n d most later i w l (inr ends) = inr (small_none n d i w ends)
small_from n d most later i w l (inl (false, r, h)) = let b = odd_or_not i in inl (b.0, r, small_false n d i w r b.0 h b.1)
small_from n d most later i w l (inl (true, r, h)) =
    let less = (coin_proper n (d * i)).takes w true r h in back (small_true n d i w r h) (later (suc i) r (omega arith))

small_within : (n d most i : ℕ) (w : List ℕ) → length w < most → Comes (SmallFrom n d i) w
small_within n d zero i w l = absurd (omega arith)
small_within n d (suc most) i w l = small_from n d most (small_within n d most) i w l (coin_comes n (d * i) w)

small_comes : (n d : ℕ) (w : List ℕ) → Comes (IsSmallExponential n d) w
small_comes n d w = small_within n d (suc (length w)) 1 w (omega arith)

-- a large one from its j-th coin of chance 1 / e on
large_from : (n d left : ℕ) → ((j : ℕ) (w : List ℕ) → Comes (LargeFrom n d j left) w) → (j : ℕ) (w : List ℕ)
    → Comes (IsOneOverE j) w → Comes (LargeFrom n d j (suc left)) w
large_from n d left later j w (inr ends) = inr (large_none n d j left w ends)
large_from n d left later j w (inl (false, r, h)) = inl (false, r, large_false n d j left w r h)
large_from n d left later j w (inl (true, r, h)) = back (large_true n d j left w r h) (later (suc j) r)

large_comes : (n d left j : ℕ) (w : List ℕ) → Comes (LargeFrom n d j left) w
large_comes n d zero j w = back (large_end n d j w) (small_comes (n % d) d w)
large_comes n d (suc left) j w = large_from n d left (large_comes n d left) j w (small_comes 1 1 w)

exponential_by : (n d : ℕ) (w : List ℕ) → (d < n) ⊎ (n ≤ d) → Comes (IsExponential n d) w
exponential_by n d w (inl large) = back (large_start n d w large) (large_comes n d (n / d) 0 w)
exponential_by n d w (inr small) = back (small_start n d w small) (small_comes n d w)

exponential_comes : (n d : ℕ) (w : List ℕ) → Comes (IsExponential n d) w
exponential_comes n d w = exponential_by n d w (cases_lt d n)

-- a magnitude from the i-th coin of chance 1 / e on, with u so far
magnitude_true : (t most : ℕ) → ((i u : ℕ) (w : List ℕ) → length w < most → u ≤ magnitude_limit → Comes (MagnitudeFrom i u t) w)
    → (i u : ℕ) (w r : List ℕ) → length r < most → u ≤ magnitude_limit → IsOneOverE i w true r
    → (magnitude_limit < u + t) ⊎ (u + t ≤ magnitude_limit) → Comes (MagnitudeFrom i u t) w
magnitude_true t most later i u w r l within h (inl past) = inl (Passed (pos (u + t)), r, passed_magnitude i u t w r h within past)
magnitude_true t most later i u w r l within h (inr more) = back (true_magnitude i u t w r h more) (later (suc i) (u + t) r l more)

magnitude_by : (t most : ℕ) → ((i u : ℕ) (w : List ℕ) → length w < most → u ≤ magnitude_limit → Comes (MagnitudeFrom i u t) w)
    → (i u : ℕ) (w : List ℕ) → length w < suc most → u ≤ magnitude_limit → Comes (IsOneOverE i) w → Comes (MagnitudeFrom i u t) w
magnitude_by t most later i u w l within (inr ends) = inr (no_magnitude i u t w ends)
magnitude_by t most later i u w l within (inl (false, r, h)) = inl (Drawn u, r, false_magnitude i u t w r h within)
magnitude_by t most later i u w l within (inl (true, r, h)) =
    let less = (one_over_e_proper i).takes w true r h in
    magnitude_true t most later i u w r (omega arith) within h (cases_lt magnitude_limit (u + t))

magnitude_within : (t most i u : ℕ) (w : List ℕ) → length w < most → u ≤ magnitude_limit → Comes (MagnitudeFrom i u t) w
magnitude_within t zero i u w l within = absurd (omega arith)
magnitude_within t (suc most) i u w l within = magnitude_by t most (magnitude_within t most) i u w l within (small_comes 1 1 w)

none_past : (u t : ℕ) (w : List ℕ) → magnitude_limit < u → Ends (IsMagnitude u t) w
none_past u t w past (Drawn m) r h = let within = h.2 in omega arith
none_past u t w past (Passed m) r h = let within = h.2 in omega arith

magnitude_from : (u t : ℕ) (w : List ℕ) → (magnitude_limit < u) ⊎ (u ≤ magnitude_limit) → Comes (IsMagnitude u t) w
magnitude_from u t w (inl past) = inr (none_past u t w past)
magnitude_from u t w (inr within) =
    back (magnitude_start u t w) (magnitude_within t (suc (length w)) 0 u w (omega arith) within)

magnitude_comes : (u t : ℕ) (w : List ℕ) → Comes (IsMagnitude u t) w
magnitude_comes u t w = magnitude_from u t w (cases_lt magnitude_limit u)

-- one attempt at a Laplace number
goes_on_by : (t u : ℕ) (w r : List ℕ) → Begins t w u true r → Comes (IsMagnitude u t) r → Comes (MagnitudeAttempt t) w
goes_on_by t u w r begins (inl m) = inl (Gives m.0, m.1, (u, r, begins, m.2))
goes_on_by t u w r begins (inr ends) = inr (no_u_magnitude t u w r begins ends)

u_by : (t u : ℕ) (w v : List ℕ) → IsUniform t w u v → Comes (IsExponential u t) v → Comes (MagnitudeAttempt t) w
u_by t u w v h (inr ends) = inr (no_u_coin t u w v h ends)
u_by t u w v h (inl (false, r, c)) = inl (Refused, r, (u, record { rest = v; uniform = h; coin = c }))
u_by t u w v h (inl (true, r, c)) = goes_on_by t u w r (record { rest = v; uniform = h; coin = c }) (magnitude_comes u t r)

magnitude_attempt_from : (t : ℕ) (w : List ℕ) → Comes (IsUniform t) w → Comes (MagnitudeAttempt t) w
magnitude_attempt_from t w (inl u) = u_by t u.0 w u.1 u.2 (exponential_comes u.0 t u.1)
magnitude_attempt_from t w (inr ends) = inr (no_u t w ends)

minus_by : (s t m : ℕ) (w r : List ℕ) → IsSigned s t w (m / s) true r → (0 < m / s) ⊎ (m / s ≤ 0) → Comes (LaplaceAttempt s t) w
minus_by s t m w r h (inl some) = inl (Gives (Drawn (neg_ℤ (pos (m / s)))), r, (m / s, inr (h, some, refl)))
minus_by s t m w r h (inr zero_at_most) =
    let e : m / s ≡ 0 = omega arith in inl (Refused, r, inr (subst (λ y. IsSigned s t w y true r) e h))

sign_by : (s t m : ℕ) (w v : List ℕ) → MagnitudeAttempt t w (Gives (Drawn m)) v → Comes (IsCoin 1 2) v → Comes (LaplaceAttempt s t) w
sign_by s t m w v h (inr ends) = inr (no_sign s t m w v h ends)
sign_by s t m w v h (inl (false, r, c)) = inl (Gives (Drawn (pos (m / s))), r, (m / s, inl (sign_is s t m w v false r h c, refl)))
sign_by s t m w v h (inl (true, r, c)) = minus_by s t m w r (sign_is s t m w v true r h c) (cases_lt 0 (m / s))

laplace_attempt_from : (s t : ℕ) (w : List ℕ) → Comes (MagnitudeAttempt t) w → Comes (LaplaceAttempt s t) w
laplace_attempt_from s t w (inr ends) = inr (no_magnitude_attempt s t w ends)
laplace_attempt_from s t w (inl (Refused, r, h)) = inl (Refused, r, inl h)
laplace_attempt_from s t w (inl (Gives (Passed m), r, h)) = inl (Gives (Passed m), r, h)
laplace_attempt_from s t w (inl (Gives (Drawn m), r, h)) = sign_by s t m w r h (coin_comes 1 2 r)

laplace_comes : (s t : ℕ) (w : List ℕ) → Comes (IsLaplace s t) w
laplace_comes s t =
    given_comes (laplace_attempt_proper s t) (λ w. laplace_attempt_from s t w (magnitude_attempt_from t w (uniform_comes t w)))

-- one attempt at a Gaussian number
kept_by : (a b t : ℕ) (w v : List ℕ) (y : ℤ) → IsLaplace 1 t w (Drawn y) v → Comes (IsKept a b t y) v → Comes (GaussianAttempt a b t) w
kept_by a b t w v y h (inr ends) = inr (no_coin_for a b t w v y h ends)
kept_by a b t w v y h (inl (true, r, k)) = inl (Gives (Drawn y), r, (v, h, k))
kept_by a b t w v y h (inl (false, r, k)) = inl (Refused, r, (y, v, h, k))

kept_comes : (a b t : ℕ) (y : ℤ) (w : List ℕ) → Comes (IsKept a b t y) w
kept_comes a b t y w = exponential_comes _ _ w

gaussian_attempt_from : (a b t : ℕ) (w : List ℕ) → Comes (IsLaplace 1 t) w → Comes (GaussianAttempt a b t) w
gaussian_attempt_from a b t w (inr ends) = inr (no_laplace a b t w ends)
gaussian_attempt_from a b t w (inl (Passed m, r, h)) = inl (Gives (Passed m), r, h)
gaussian_attempt_from a b t w (inl (Drawn y, r, h)) = kept_by a b t w r y h (kept_comes a b t y r)

next_scale : (a b t : ℕ) → 1 ≤ b → IsScale a b t → (suc a < t ^ 2 * b) ⊎ (t ^ 2 * b ≤ suc a) → (u : ℕ) × IsScale (suc a) b u
next_scale a b t some h (inl high) = (t, record { some = h.some; low = let low = h.low in omega arith; high = high })
next_scale a b t some h (inr low) =
    let up : t ^ 2 * b < suc t ^ 2 * b =
    mul-lt-mul_of_pos_right {k = b} (pow-lt-pow_left {a = t} {b = suc t} {n = 2} (omega arith) (omega arith)) some in (
      suc t,
      record {
        some = omega arith;
        low = let e : suc t - 1 ≡ t = omega arith in rw e low;
        high = let high = h.high in omega arith;
      },
    )

scale_of : (a b : ℕ) → 1 ≤ b → (t : ℕ) × IsScale a b t
scale_of zero b some = (1, record { some = omega arith; low = omega arith; high = omega arith })
scale_of (suc a) b some = let t = scale_of a b some in next_scale a b t.0 some t.1 (cases_lt (suc a) (t.0 ^ 2 * b))

gaussian_comes : (a b : ℕ) → 1 ≤ b → (w : List ℕ) → Comes (IsGaussian a b) w
gaussian_comes a b some w =
    let t = scale_of a b some in
    back (gaussian_leads a b t.0 w t.1)
    (given_comes (gaussian_attempt_proper a b t.0) (λ v. gaussian_attempt_from a b t.0 v (laplace_comes 1 t.0 v)) w)

gaussian_both : (a b : ℕ) (w : List ℕ) (x y : Outcome ℤ) (r s : List ℕ) → IsGaussian a b w x r → IsGaussian a b w y s → (x ≡ y) × (r ≡ s)
gaussian_both a b w x y r s h g =
    let on = (gaussian_leads a b g.0 w g.1).to x r h in
    let single = first_proper (gaussian_attempt_proper a b g.0) in
    (single.value w x y r s on g.2, single.rest w x y r s on g.2)

pub uniform_comes_to_one : (n : ℕ) → ComesToOne (IsUniform n)
uniform_comes_to_one n = one (uniform_proper n) (uniform_comes n)

pub coin_comes_to_one : (n d : ℕ) → ComesToOne (IsCoin n d)
coin_comes_to_one n d = one (coin_proper n d) (coin_comes n d)

pub exponential_comes_to_one : (n d : ℕ) → ComesToOne (IsExponential n d)
exponential_comes_to_one n d = one (exponential_proper n d) (exponential_comes n d)

pub laplace_comes_to_one : (s t : ℕ) → ComesToOne (IsLaplace s t)
laplace_comes_to_one s t = one (laplace_proper s t) (laplace_comes s t)

pub gaussian_comes_to_one : (a b : ℕ) → 1 ≤ b → ComesToOne (IsGaussian a b)
gaussian_comes_to_one a b some = record {
  some = gaussian_comes a b some;
  value = λ w x y r s h g. (gaussian_both a b w x y r s h g).0;
  rest = λ w x y r s h g. (gaussian_both a b w x y r s h g).1;
  takes = λ w x r h. (first_proper (gaussian_attempt_proper a b h.0)).takes w x r h.2;
}
