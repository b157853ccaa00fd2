-- Laplace numbers: their magnitudes and attempts, of which at most one stands at the front of any words.
use Rattle.std.proofs.Common.{ℕ, zero, suc, ◌≡◌, ◌+◌, ◌*◌, ◌/◌, ◌<◌, ◌≤◌, ◌^◌, ◌⊎◌, inl, inr, Bool, true, false, List, length, ℤ, pos, neg_ℤ, refl, sym, ap, subst, arith, ◌∙◌, Err}
use Rattle.std.proofs.lemmas.Bool.{cases_lt, false≢true}
use Rattle.std.proofs.Math.Nat.{mul-le-mul_left, div-le_self}
use Rattle.tda_noise.specs.Draws.{Drawing, Ends, Attempt, Refused, Gives, Outcome, Drawn, Passed, IsUniform, IsCoin, Trues, TruesThenFalse, IsOneOverE, IsExponential, magnitude_limit, IsMagnitude, Begins, MagnitudeAttempt, IsSigned, LaplaceAttempt, IsLaplace}
use Rattle.tda_noise.specs.Answers.{Answers, found, attempt_of}
use Rattle.tda_noise.specs.declared.draw.Stop.{Stop}
use Rattle.tda_noise.specs.declared.draw.Stop.TheVariants as stop
use Rattle.tda_noise.proofs.Peel.{IsProper, Leads, leads_on, true_to, true_from, false_from, no_toss, no_true, tosses_proper, tosses_take, trues_proper, trues_take, trues_or_false, first_proper}
use Rattle.tda_noise.proofs.UniformDraws.{uniform_proper}
use Rattle.tda_noise.proofs.CoinDraws.{coin_proper, one_over_e_proper, exponential_proper, small_start}

-- the magnitude from the i-th coin on, with u so far
abbrev pub MagnitudeFrom : ℕ → ℕ → ℕ → Drawing (Outcome ℕ)
MagnitudeFrom i u t w (Drawn m) r =
    (v : ℕ) × TruesThenFalse IsOneOverE i v w r × (u + t * v ≤ magnitude_limit) × (m ≡ u + t * v)
MagnitudeFrom i u t w (Passed m) r =
    (v : ℕ) × Trues IsOneOverE i (suc v) w r × (u + t * v ≤ magnitude_limit) × (magnitude_limit < u + t * suc v) × (m ≡ pos (u + t * suc v))

start_to : (u t : ℕ) (w : List ℕ) (x : Outcome ℕ) (r : List ℕ) → IsMagnitude u t w x r → MagnitudeFrom 0 u t w x r
start_to u t w (Drawn m) r d = d
start_to u t w (Passed m) r d = d

start_from : (u t : ℕ) (w : List ℕ) (x : Outcome ℕ) (r : List ℕ) → MagnitudeFrom 0 u t w x r → IsMagnitude u t w x r
start_from u t w (Drawn m) r d = d
start_from u t w (Passed m) r d = d

pub magnitude_start : (u t : ℕ) (w : List ℕ) → Leads (IsMagnitude u t) w (MagnitudeFrom 0 u t) w
magnitude_start u t w = record { to = start_to u t w; from = start_from u t w }

step : (u t k : ℕ) → u + t * suc k ≡ u + t + t * k
step u t k = omega arith

step_at : (u t v k : ℕ) → v ≡ suc k → u + t * v ≡ u + t + t * k
step_at u t v k e = ap (λ n. u + t * n) e ∙ step u t k

passed_to : (i u t : ℕ) (w v : List ℕ) → IsOneOverE i w true v → u + t ≤ magnitude_limit → (m : ℤ) (r : List ℕ) (n : ℕ) →
    Trues IsOneOverE i (suc n) w r → u + t * n ≤ magnitude_limit → magnitude_limit < u + t * suc n → m ≡ pos (u + t * suc n) →
    MagnitudeFrom (suc i) (u + t) t v (Passed m) r
passed_to i u t w v h within m r zero ts low high e = absurd (omega arith)
passed_to i u t w v h within m r (suc k) ts low high e =
    let q = (one_over_e_proper i).rest w true true ts.0 v ts.1 h in
    let tail = subst (λ x. Trues IsOneOverE (suc i) (suc k) x r) q ts.2 in
    let a : u + t + t * k ≤ magnitude_limit = rw (← step u t k) low in
    let b : magnitude_limit < u + t + t * suc k = rw (← step u t (suc k)) high in
    (k, tail, a, b, e ∙ ap pos (step u t (suc k)))

true_magnitude_to : (i u t : ℕ) (w v : List ℕ) → IsOneOverE i w true v → u + t ≤ magnitude_limit → (x : Outcome ℕ) (r : List ℕ) →
    MagnitudeFrom i u t w x r → MagnitudeFrom (suc i) (u + t) t v x r
true_magnitude_to i u t w v h within (Drawn m) r d =
    let k = true_to IsOneOverE i (one_over_e_proper i) w v h d.0 r d.1 in
    let e = step_at u t d.0 k.0 k.1 in
    let a : u + t + t * k.0 ≤ magnitude_limit = rw (← e) d.2 in
    (k.0, k.2, a, d.3 ∙ e)
true_magnitude_to i u t w v h within (Passed m) r d = passed_to i u t w v h within m r d.0 d.1 d.2 d.3 d.4

true_magnitude_from : (i u t : ℕ) (w v : List ℕ) → IsOneOverE i w true v → (x : Outcome ℕ) (r : List ℕ) →
    MagnitudeFrom (suc i) (u + t) t v x r → MagnitudeFrom i u t w x r
true_magnitude_from i u t w v h (Drawn m) r d =
    let e = step u t d.0 in
    let a : u + t * suc d.0 ≤ magnitude_limit = rw e d.2 in
    (suc d.0, true_from IsOneOverE i w v h d.0 r d.1, a, d.3 ∙ sym e)
true_magnitude_from i u t w v h (Passed m) r d =
    let a : u + t * suc d.0 ≤ magnitude_limit = rw (step u t d.0) d.2 in
    let b : magnitude_limit < u + t * suc (suc d.0) = rw (step u t (suc d.0)) d.3 in
    (suc d.0, (v, h, d.1), a, b, d.4 ∙ ap pos (sym (step u t (suc d.0))))

pub true_magnitude : (i u t : ℕ) (w v : List ℕ) → IsOneOverE i w true v → u + t ≤ magnitude_limit →
    Leads (MagnitudeFrom i u t) w (MagnitudeFrom (suc i) (u + t) t) v
true_magnitude i u t w v h within = record { to = true_magnitude_to i u t w v h within; from = true_magnitude_from i u t w v h }

pub false_magnitude : (i u t : ℕ) (w v : List ℕ) → IsOneOverE i w false v → u ≤ magnitude_limit → MagnitudeFrom i u t w (Drawn u) v
false_magnitude i u t w v h within =
    let e : u ≡ u + t * 0 = omega arith in
    let a : u + t * 0 ≤ magnitude_limit = rw (← e) within in
    (0, false_from IsOneOverE i w v h, a, e)

pub passed_magnitude : (i u t : ℕ) (w v : List ℕ) → IsOneOverE i w true v → u ≤ magnitude_limit → magnitude_limit < u + t →
    MagnitudeFrom i u t w (Passed (pos (u + t))) v
passed_magnitude i u t w v h within beyond =
    let e : u ≡ u + t * 0 = omega arith in
    let f : u + t ≡ u + t * 1 = omega arith in
    let a : u + t * 0 ≤ magnitude_limit = rw (← e) within in
    let b : magnitude_limit < u + t * 1 = rw (← f) beyond in
    (0, (v, h, refl), a, b, ap pos f)

pub no_magnitude : (i u t : ℕ) (w : List ℕ) → Ends (IsOneOverE i) w → Ends (MagnitudeFrom i u t) w
no_magnitude i u t w none (Drawn m) r d = no_toss IsOneOverE i w none d.0 r d.1
no_magnitude i u t w none (Passed m) r d = no_true IsOneOverE i w none d.0 r d.1

-- what the loop over the coins of chance 1 / e keeps
pub record Raised (u t : ℕ) (before w : List ℕ) (m : ℕ) : Type 0 where
  pub coins : ℕ
  pub leads : Leads (IsMagnitude u t) before (MagnitudeFrom coins m t) w
  pub within : m ≤ magnitude_limit

pub raised_start : (u t : ℕ) (w : List ℕ) → u < t → t ≤ 2 ^ 20 → Raised u t w w u
raised_start u t w h few = record { coins = 0; leads = magnitude_start u t w; within = omega arith }

pub raised_true : {u t : ℕ} {before w : List ℕ} {m : ℕ} → Raised u t before w m → (v : List ℕ) → IsOneOverE 0 w true v →
    m + t ≤ magnitude_limit → Raised u t before v (m + t)
raised_true {u} {t} {before} {w} {m} h v coin within =
    record { coins = suc h.coins; leads = leads_on h.leads (true_magnitude h.coins m t w v coin within); within = within }

pub raised_false : {u t : ℕ} {before w : List ℕ} {m : ℕ} → Raised u t before w m → (v : List ℕ) → IsOneOverE 0 w false v →
    IsMagnitude u t before (Drawn m) v
raised_false {u} {t} {before} {w} {m} h v coin = h.leads.from (Drawn m) v (false_magnitude h.coins m t w v coin h.within)

pub raised_past : {u t : ℕ} {before w : List ℕ} {m : ℕ} → Raised u t before w m → (v : List ℕ) → IsOneOverE 0 w true v →
    magnitude_limit < m + t → IsMagnitude u t before (Passed (pos (m + t))) v
raised_past {u} {t} {before} {w} {m} h v coin beyond =
    h.leads.from (Passed (pos (m + t))) v (passed_magnitude h.coins m t w v coin h.within beyond)

pub raised_none : {u t : ℕ} {before w : List ℕ} {m : ℕ} → Raised u t before w m → Ends (IsOneOverE 0) w → Ends (IsMagnitude u t) before
raised_none {u} {t} {before} {w} {m} h none x r d = no_magnitude h.coins m t w none x r (h.leads.to x r d)

-- one magnitude at most
more_coins : (u t j k : ℕ) → j ≤ k → u + t * j ≤ u + t * k
more_coins u t j k h = let e = mul-le-mul_left t h in omega arith

stays_or_passes : (u t : ℕ) (w : List ℕ) (r s : List ℕ) (j k : ℕ) → TruesThenFalse IsOneOverE 0 j w r → u + t * j ≤ magnitude_limit →
    Trues IsOneOverE 0 (suc k) w s → magnitude_limit < u + t * suc k → (j < suc k) ⊎ (suc k ≤ j) → ⊥
stays_or_passes u t w r s j k d within e beyond (inl h) = trues_or_false IsOneOverE one_over_e_proper 0 (suc k) j w s r e d h
stays_or_passes u t w r s j k d within e beyond (inr h) = let m = more_coins u t (suc k) j h in absurd (omega arith)

passes_once : (u t j k : ℕ) → u + t * k ≤ magnitude_limit → magnitude_limit < u + t * suc j → j < k → ⊥
passes_once u t j k within beyond h =
    let m = more_coins u t (suc j) k (omega arith) in absurd (omega arith)

passes_same : (u t j k : ℕ) → u + t * j ≤ magnitude_limit → magnitude_limit < u + t * suc j →
    u + t * k ≤ magnitude_limit → magnitude_limit < u + t * suc k → (j < k) ⊎ (k ≤ j) → (k < j) ⊎ (j ≤ k) → j ≡ k
passes_same u t j k a b c d (inl h) y = absurd (passes_once u t j k c b h)
passes_same u t j k a b c d (inr h) (inl l) = absurd (passes_once u t k j a d l)
passes_same u t j k a b c d (inr h) (inr l) = omega arith

magnitude_both : (u t : ℕ) (w : List ℕ) (x y : Outcome ℕ) (r s : List ℕ) → IsMagnitude u t w x r → IsMagnitude u t w y s → (x ≡ y) × (r ≡ s)
magnitude_both u t w (Drawn m) (Drawn n) r s d e =
    let q = tosses_proper IsOneOverE one_over_e_proper 0 d.0 e.0 w r s d.1 e.1 in
    (ap Drawn (d.3 ∙ ap (λ v. u + t * v) q.0 ∙ sym e.3), q.1)
magnitude_both u t w (Drawn m) (Passed n) r s d e = absurd (stays_or_passes u t w r s d.0 e.0 d.1 d.2 e.1 e.3 (cases_lt d.0 (suc e.0)))
magnitude_both u t w (Passed m) (Drawn n) r s d e = absurd (stays_or_passes u t w s r e.0 d.0 e.1 e.2 d.1 d.3 (cases_lt e.0 (suc d.0)))
magnitude_both u t w (Passed m) (Passed n) r s d e =
    let q = passes_same u t d.0 e.0 d.2 d.3 e.2 e.3 (cases_lt d.0 e.0) (cases_lt e.0 d.0) in
    let f = subst (λ k. Trues IsOneOverE 0 (suc k) w s) (sym q) e.1 in
    (ap Passed (d.4 ∙ ap (λ v. pos (u + t * suc v)) q ∙ sym e.4), trues_proper IsOneOverE one_over_e_proper 0 (suc d.0) w r s d.1 f)

magnitude_takes : (u t : ℕ) (w : List ℕ) (x : Outcome ℕ) (r : List ℕ) → IsMagnitude u t w x r → length r < length w
magnitude_takes u t w (Drawn m) r d = tosses_take IsOneOverE one_over_e_proper 0 d.0 w r d.1
magnitude_takes u t w (Passed m) r d = let h = trues_take IsOneOverE one_over_e_proper 0 (suc d.0) w r d.1 in omega arith

pub magnitude_proper : (u t : ℕ) → IsProper (IsMagnitude u t)
magnitude_proper u t = record {
  value = λ w x y r s d e. (magnitude_both u t w x y r s d e).0;
  rest = λ w x y r s d e. (magnitude_both u t w x y r s d e).1;
  takes = magnitude_takes u t;
}

-- one U at most
begins_both : (t : ℕ) (w : List ℕ) (u v : ℕ) (b c : Bool) (r s : List ℕ) → Begins t w u b r → Begins t w v c s → (u ≡ v) × (b ≡ c) × (r ≡ s)
begins_both t w u v b c r s d e =
    let q = (uniform_proper t).value w v u e.rest d.rest e.uniform d.uniform in
    let p = (uniform_proper t).rest w v u e.rest d.rest e.uniform d.uniform in
    let f = subst (λ x. IsExponential x t e.rest c s) q e.coin in
    let g = subst (λ x. IsExponential u t x c s) p f in
    (sym q, (exponential_proper u t).value d.rest b c r s d.coin g, (exponential_proper u t).rest d.rest b c r s d.coin g)

begins_takes : (t : ℕ) (w : List ℕ) (u : ℕ) (b : Bool) (r : List ℕ) → Begins t w u b r → length r < length w
begins_takes t w u b r d =
    let h = (uniform_proper t).takes w u d.rest d.uniform in
    let k = (exponential_proper u t).takes d.rest b r d.coin in
    omega arith

attempt_both : (t : ℕ) (w : List ℕ) (x y : Attempt (Outcome ℕ)) (r s : List ℕ) → MagnitudeAttempt t w x r → MagnitudeAttempt t w y s → (x ≡ y) × (r ≡ s)
attempt_both t w Refused Refused r s d e = (refl, (begins_both t w d.0 e.0 false false r s d.1 e.1).2)
attempt_both t w Refused (Gives n) r s d e = absurd (false≢true (begins_both t w d.0 e.0 false true r e.1 d.1 e.2).1)
attempt_both t w (Gives m) Refused r s d e = absurd (false≢true (sym (begins_both t w d.0 e.0 true false d.1 s d.2 e.1).1))
attempt_both t w (Gives m) (Gives n) r s d e =
    let q = begins_both t w e.0 d.0 true true e.1 d.1 e.2 d.2 in
    let f = subst (λ x. IsMagnitude x t e.1 n s) q.0 e.3 in
    let g = subst (λ x. IsMagnitude d.0 t x n s) q.2 f in
    (ap Gives ((magnitude_proper d.0 t).value d.1 m n r s d.3 g), (magnitude_proper d.0 t).rest d.1 m n r s d.3 g)

attempt_takes : (t : ℕ) (w : List ℕ) (x : Attempt (Outcome ℕ)) (r : List ℕ) → MagnitudeAttempt t w x r → length r < length w
attempt_takes t w Refused r d = begins_takes t w d.0 false r d.1
attempt_takes t w (Gives m) r d =
    let h = begins_takes t w d.0 true d.1 d.2 in
    let k = (magnitude_proper d.0 t).takes d.1 m r d.3 in
    omega arith

pub magnitude_attempt_proper : (t : ℕ) → IsProper (MagnitudeAttempt t)
magnitude_attempt_proper t = record {
  value = λ w x y r s d e. (attempt_both t w x y r s d e).0;
  rest = λ w x y r s d e. (attempt_both t w x y r s d e).1;
  takes = attempt_takes t;
}

-- where the words end before a U, before its coin, or before its magnitude
pub no_u : (t : ℕ) (w : List ℕ) → Ends (IsUniform t) w → Ends (MagnitudeAttempt t) w
no_u t w none Refused r d = none d.0 d.1.rest d.1.uniform
no_u t w none (Gives m) r d = none d.0 d.2.rest d.2.uniform

no_coin_by : (t u : ℕ) (w v : List ℕ) → IsUniform t w u v → Ends (IsExponential u t) v → (y : ℕ) (b : Bool) (r : List ℕ) → Begins t w y b r → ⊥
no_coin_by t u w v h none y b r d =
    let q = (uniform_proper t).value w y u d.rest v d.uniform h in
    let p = (uniform_proper t).rest w y u d.rest v d.uniform h in
    none b r (subst (λ x. IsExponential u t x b r) p (subst (λ x. IsExponential x t d.rest b r) q d.coin))

pub no_u_coin : (t u : ℕ) (w v : List ℕ) → IsUniform t w u v → Ends (IsExponential u t) v → Ends (MagnitudeAttempt t) w
no_u_coin t u w v h none Refused r d = no_coin_by t u w v h none d.0 false r d.1
no_u_coin t u w v h none (Gives m) r d = no_coin_by t u w v h none d.0 true d.1 d.2

pub no_u_magnitude : (t u : ℕ) (w v : List ℕ) → Begins t w u true v → Ends (IsMagnitude u t) v → Ends (MagnitudeAttempt t) w
no_u_magnitude t u w v h none Refused r d = absurd (false≢true (begins_both t w d.0 u false true r v d.1 h).1)
no_u_magnitude t u w v h none (Gives m) r d =
    let q = begins_both t w d.0 u true true d.1 v d.2 h in
    none m r (subst (λ x. IsMagnitude u t x m r) q.2 (subst (λ x. IsMagnitude x t d.1 m r) q.0 d.3))

-- the coin of 1 and 1 is that of chance 1 / e
pub one_over_e : (w : List ℕ) (b : Bool) (r : List ℕ) → IsExponential 1 1 w b r → IsOneOverE 0 w b r
one_over_e w b r x = (small_start 1 1 w (omega arith)).to b r x

pub no_one_over_e : (w : List ℕ) → Ends (IsExponential 1 1) w → Ends (IsOneOverE 0) w
no_one_over_e w none b r x = none b r ((small_start 1 1 w (omega arith)).from b r x)

pub raised_past_as : {u t : ℕ} {before w : List ℕ} {m : ℕ} → Raised u t before w m → (v : List ℕ) → IsOneOverE 0 w true v →
    magnitude_limit < m + t → (z : ℤ) → z ≡ pos (m + t) → IsMagnitude u t before (Passed z) v
raised_past_as {u} {t} {before} {w} {m} h v coin beyond z e =
    subst (λ x. IsMagnitude u t before (Passed x) v) (sym e) (raised_past h v coin beyond)

-- one signed number at most
signed_both : (s t : ℕ) (w : List ℕ) (x y : ℕ) (b c : Bool) (r q : List ℕ) → IsSigned s t w x b r → IsSigned s t w y c q → (x ≡ y) × (b ≡ c) × (r ≡ q)
signed_both s t w x y b c r q d e =
    let m = attempt_both t w (Gives (Drawn d.m)) (Gives (Drawn e.m)) d.rest e.rest d.magnitude e.magnitude in
    let same : d.m ≡ e.m = let k = m.0 in cc in
    let f = subst (λ u. IsCoin 1 2 u c q) (sym m.1) e.sign in
    (d.part ∙ ap (λ n. n / s) same ∙ sym e.part, (coin_proper 1 2).value d.rest b c r q d.sign f, (coin_proper 1 2).rest d.rest b c r q d.sign f)

-- what a signed number comes to
signed : ℕ → Bool → Attempt (Outcome ℤ)
signed y false = Gives (Drawn (pos y))
signed zero true = Refused
signed (suc y) true = Gives (Drawn (neg_ℤ (pos (suc y))))

negative_is : (n : ℕ) → 0 < n → signed n true ≡ Gives (Drawn (neg_ℤ (pos n)))
unfolding signed
negative_is zero h = absurd (omega arith)
negative_is (suc n) h = refl

-- an attempt by what comes of its magnitude: it is refused, passes the limit, or gets a sign
data Tried (s t : ℕ) (w : List ℕ) (x : Attempt (Outcome ℤ)) (r : List ℕ) : Type 0 where
  not_kept : MagnitudeAttempt t w Refused r → x ≡ Refused → Tried s t w x r
  passed : (m : ℤ) → MagnitudeAttempt t w (Gives (Passed m)) r → x ≡ Gives (Passed m) → Tried s t w x r
  gets_sign : (y : ℕ) (b : Bool) → IsSigned s t w y b r → x ≡ signed y b → Tried s t w x r

tried : (s t : ℕ) (w : List ℕ) (x : Attempt (Outcome ℤ)) (r : List ℕ) → LaplaceAttempt s t w x r → Tried s t w x r
unfolding signed
tried s t w Refused r (inl d) = not_kept d refl
tried s t w Refused r (inr d) = gets_sign 0 true d refl
tried s t w (Gives (Passed m)) r d = passed m d refl
tried s t w (Gives (Drawn y)) r (n, inl d) = gets_sign n false d.0 (ap (λ z. Gives (Drawn z)) d.1)
tried s t w (Gives (Drawn y)) r (n, inr d) = gets_sign n true d.0 (ap (λ z. Gives (Drawn z)) d.2 ∙ sym (negative_is n d.1))

tried_both : (s t : ℕ) (w : List ℕ) (x y : Attempt (Outcome ℤ)) (r q : List ℕ) → Tried s t w x r → Tried s t w y q → (x ≡ y) × (r ≡ q)
tried_both s t w x y r q (not_kept d i) (not_kept e j) = (i ∙ sym j, (attempt_both t w Refused Refused r q d e).1)
tried_both s t w x y r q (not_kept d i) (passed n e j) = let k = (attempt_both t w Refused (Gives (Passed n)) r q d e).0 in cc
tried_both s t w x y r q (not_kept d i) (gets_sign n c e j) =
    let k = (attempt_both t w Refused (Gives (Drawn e.m)) r e.rest d e.magnitude).0 in cc
tried_both s t w x y r q (passed m d i) (not_kept e j) = let k = (attempt_both t w (Gives (Passed m)) Refused r q d e).0 in cc
tried_both s t w x y r q (passed m d i) (passed n e j) =
    let k = attempt_both t w (Gives (Passed m)) (Gives (Passed n)) r q d e in
    let same : m ≡ n = let z = k.0 in cc in
    (i ∙ ap (λ v. Gives (Passed v)) same ∙ sym j, k.1)
tried_both s t w x y r q (passed m d i) (gets_sign n c e j) =
    let k = (attempt_both t w (Gives (Passed m)) (Gives (Drawn e.m)) r e.rest d e.magnitude).0 in cc
tried_both s t w x y r q (gets_sign m b d i) (not_kept e j) =
    let k = (attempt_both t w (Gives (Drawn d.m)) Refused d.rest q d.magnitude e).0 in cc
tried_both s t w x y r q (gets_sign m b d i) (passed n e j) =
    let k = (attempt_both t w (Gives (Drawn d.m)) (Gives (Passed n)) d.rest q d.magnitude e).0 in cc
tried_both s t w x y r q (gets_sign m b d i) (gets_sign n c e j) =
    let k = signed_both s t w m n b c r q d e in
    (i ∙ ap (λ v. signed v b) k.0 ∙ ap (signed n) k.1 ∙ sym j, k.2)

tried_takes : (s t : ℕ) (w : List ℕ) (x : Attempt (Outcome ℤ)) (r : List ℕ) → Tried s t w x r → length r < length w
tried_takes s t w x r (not_kept d i) = attempt_takes t w Refused r d
tried_takes s t w x r (passed m d i) = attempt_takes t w (Gives (Passed m)) r d
tried_takes s t w x r (gets_sign y b d i) =
    let h = attempt_takes t w (Gives (Drawn d.m)) d.rest d.magnitude in
    let k = (coin_proper 1 2).takes d.rest b r d.sign in
    omega arith

pub laplace_attempt_proper : (s t : ℕ) → IsProper (LaplaceAttempt s t)
laplace_attempt_proper s t = record {
  value = λ w x y r q d e. (tried_both s t w x y r q (tried s t w x r d) (tried s t w y q e)).0;
  rest = λ w x y r q d e. (tried_both s t w x y r q (tried s t w x r d) (tried s t w y q e)).1;
  takes = λ w x r d. tried_takes s t w x r (tried s t w x r d);
}

pub laplace_proper : (s t : ℕ) → IsProper (IsLaplace s t)
laplace_proper s t = first_proper (laplace_attempt_proper s t)

-- where the words end before a magnitude or before its sign
tried_none : (s t : ℕ) (w : List ℕ) → Ends (MagnitudeAttempt t) w → (x : Attempt (Outcome ℤ)) (r : List ℕ) → Tried s t w x r → ⊥
tried_none s t w none x r (not_kept d i) = none Refused r d
tried_none s t w none x r (passed m d i) = none (Gives (Passed m)) r d
tried_none s t w none x r (gets_sign y b d i) = none (Gives (Drawn d.m)) d.rest d.magnitude

pub no_magnitude_attempt : (s t : ℕ) (w : List ℕ) → Ends (MagnitudeAttempt t) w → Ends (LaplaceAttempt s t) w
no_magnitude_attempt s t w none x r d = tried_none s t w none x r (tried s t w x r d)

tried_unsigned : (s t m : ℕ) (w v : List ℕ) → MagnitudeAttempt t w (Gives (Drawn m)) v → Ends (IsCoin 1 2) v →
    (x : Attempt (Outcome ℤ)) (r : List ℕ) → Tried s t w x r → ⊥
tried_unsigned s t m w v h none x r (not_kept d i) = let k = (attempt_both t w (Gives (Drawn m)) Refused v r h d).0 in cc
tried_unsigned s t m w v h none x r (passed n d i) = let k = (attempt_both t w (Gives (Drawn m)) (Gives (Passed n)) v r h d).0 in cc
tried_unsigned s t m w v h none x r (gets_sign y b d i) =
    let k = (attempt_both t w (Gives (Drawn d.m)) (Gives (Drawn m)) d.rest v d.magnitude h).1 in
    none b r (subst (λ u. IsCoin 1 2 u b r) k d.sign)

pub no_sign : (s t m : ℕ) (w v : List ℕ) → MagnitudeAttempt t w (Gives (Drawn m)) v → Ends (IsCoin 1 2) v → Ends (LaplaceAttempt s t) w
no_sign s t m w v h none x r d = tried_unsigned s t m w v h none x r (tried s t w x r d)

-- a magnitude with its sign
pub sign_is : (s t m : ℕ) (w v : List ℕ) (b : Bool) (r : List ℕ) → MagnitudeAttempt t w (Gives (Drawn m)) v → IsCoin 1 2 v b r → IsSigned s t w (m / s) b r
sign_is s t m w v b r h coin = record { m = m; rest = v; magnitude = h; part = refl; sign = coin }

-- a stop in the magnitude is one of the attempt
pub stop_attempt : (t u : ℕ) (before v now : List ℕ) → Begins t before u true v → (halt : Stop) →
    Answers (IsMagnitude u t) (found {A = ℕ} (Err halt)) v now → Answers (MagnitudeAttempt t) (attempt_of {A = ℕ} (Err halt)) before now
stop_attempt t u before v now h (stop.TooLarge m) d = (u, v, h, d)
stop_attempt t u before v now h stop.OutOfWords d = (no_u_magnitude t u before v h d.0, d.1)

-- a magnitude is within the limit
pub is_within : (t m : ℕ) (w r : List ℕ) → MagnitudeAttempt t w (Gives (Drawn m)) r → m ≤ magnitude_limit
is_within t m w r d = let within = d.3.2 in rw d.3.3 within

pub part_within : (s t m : ℕ) (w r : List ℕ) → MagnitudeAttempt t w (Gives (Drawn m)) r → m / s < 2 ^ 63
part_within s t m w r d =
    let h = is_within t m w r d in
    let k = div-le_self m s in
    omega arith

-- a stop in an attempt's magnitude is one of the attempt
pub stop_laplace : (s t : ℕ) (before now : List ℕ) (halt : Stop) →
    Answers (MagnitudeAttempt t) (attempt_of {A = ℕ} (Err halt)) before now → Answers (LaplaceAttempt s t) (attempt_of {A = ℤ} (Err halt)) before now
stop_laplace s t before now (stop.TooLarge m) d = d
stop_laplace s t before now stop.OutOfWords d = (no_magnitude_attempt s t before d.0, d.1)
