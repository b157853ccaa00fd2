-- Draws that are led back: those on the words before are those on the words after.
use Rattle.std.proofs.Common.{ℕ, zero, suc, ◌≡◌, ◌+◌, ◌<◌, ◌≤◌, Bool, true, false, List, length, refl, sym, ap, subst, arith, add-zero, Option, Some, None, ◌∙◌}
use Rattle.tda_noise.specs.Draws.{Drawing, Ends, Attempt, Refused, Gives, AfterRefusals, FirstGiven, Trues, TruesThenFalse}
use Rattle.tda_noise.specs.Answers.{Answers}

-- at most one such draw stands at the front of any words, and it takes a word
pub record IsProper {A : Type 0} (Draws : Drawing A) : Type 0 where
  pub value : (w : List ℕ) (x y : A) (r s : List ℕ) → Draws w x r → Draws w y s → x ≡ y
  pub rest : (w : List ℕ) (x y : A) (r s : List ℕ) → Draws w x r → Draws w y s → r ≡ s
  pub takes : (w : List ℕ) (x : A) (r : List ℕ) → Draws w x r → length r < length w

-- the draws on w are the other draws on v
pub record Leads {A : Type 0} (Draws : Drawing A) (w : List ℕ) (Others : Drawing A) (v : List ℕ) : Type 0 where
  pub to : (x : A) (r : List ℕ) → Draws w x r → Others v x r
  pub from : (x : A) (r : List ℕ) → Others v x r → Draws w x r

pub leads_same : {A : Type 0} (D : Drawing A) (w : List ℕ) → Leads D w D w
leads_same D w = record { to = λ x r h. h; from = λ x r h. h }

pub leads_on : {A : Type 0} {D E F : Drawing A} {w v u : List ℕ} → Leads D w E v → Leads E v F u → Leads D w F u
leads_on h k = record { to = λ x r d. k.to x r (h.to x r d); from = λ x r f. h.from x r (k.from x r f) }

-- so what is answered there is answered here
pub answers_back : {A : Type 0} {D E : Drawing A} {w v : List ℕ} → Leads D w E v →
    (answer : Option A) (now : List ℕ) → Answers E answer v now → Answers D answer w now
answers_back h (Some x) now a = h.from x now a
answers_back h None now a = (λ x r d. a.0 x r (h.to x r d), a.1)

refused_to : {A : Type 0} {Try : Drawing (Attempt A)} → IsProper Try → (w v : List ℕ) (x : A) (r : List ℕ) (n : ℕ) →
    Try w Refused v → AfterRefusals Try n w x r → FirstGiven Try v x r
refused_to one w v x r zero h given = let e = one.value w Refused (Gives x) v r h given in cc
refused_to {A} {Try} one w v x r (suc n) h d =
    (n, subst (λ u. AfterRefusals Try n u x r) (one.rest w Refused Refused d.0 v d.1 h) d.2)

-- refused attempts are peeled off
pub refused_leads : {A : Type 0} {Try : Drawing (Attempt A)} → IsProper Try →
    {w v : List ℕ} → Try w Refused v → Leads (FirstGiven Try) w (FirstGiven Try) v
refused_leads {A} {Try} one {w} {v} h = record {
  to = λ x r d. refused_to one w v x r d.0 h d.1;
  from = λ x r d. (suc d.0, (v, h, d.1));
}

no_attempt_by : {A : Type 0} (Try : Drawing (Attempt A)) (w : List ℕ) → Ends Try w →
    (x : A) (r : List ℕ) (n : ℕ) → AfterRefusals Try n w x r → ⊥
no_attempt_by Try w none x r zero d = none (Gives x) r d
no_attempt_by Try w none x r (suc n) d = none Refused d.0 d.1

-- with no attempt at the front there is no draw
pub no_attempt : {A : Type 0} (Try : Drawing (Attempt A)) (w : List ℕ) → Ends Try w → Ends (FirstGiven Try) w
no_attempt Try w none x r d = no_attempt_by Try w none x r d.0 d.1

-- single attempts give single draws
first_value : {A : Type 0} (Try : Drawing (Attempt A)) → IsProper Try → (w : List ℕ) (x y : A) (r s : List ℕ) (m n : ℕ) →
    AfterRefusals Try m w x r → AfterRefusals Try n w y s → (x ≡ y) × (r ≡ s)
first_value Try one w x y r s zero zero d e =
    let q = one.value w (Gives x) (Gives y) r s d e in
    ((cc), one.rest w (Gives x) (Gives y) r s d e)
first_value Try one w x y r s zero (suc n) d e =
    let q = one.value w (Gives x) Refused r e.0 d e.1 in cc
first_value Try one w x y r s (suc m) zero d e =
    let q = one.value w Refused (Gives y) d.0 s d.1 e in cc
first_value Try one w x y r s (suc m) (suc n) d e =
    let q = one.rest w Refused Refused e.0 d.0 e.1 d.1 in
    first_value Try one d.0 x y r s m n d.2 (subst (λ u. AfterRefusals Try n u y s) q e.2)

first_takes : {A : Type 0} (Try : Drawing (Attempt A)) → IsProper Try → (w : List ℕ) (x : A) (r : List ℕ) (n : ℕ) →
    AfterRefusals Try n w x r → length r < length w
first_takes Try one w x r zero d = one.takes w (Gives x) r d
first_takes Try one w x r (suc n) d =
    let h = one.takes w Refused d.0 d.1 in
    let k = first_takes Try one d.0 x r n d.2 in
    omega arith

pub first_proper : {A : Type 0} {Try : Drawing (Attempt A)} → IsProper Try → IsProper (FirstGiven Try)
first_proper {A} {Try} one = record {
  value = λ w x y r s d e. (first_value Try one w x y r s d.0 e.0 d.1 e.1).0;
  rest = λ w x y r s d e. (first_value Try one w x y r s d.0 e.0 d.1 e.1).1;
  takes = λ w x r d. first_takes Try one w x r d.0 d.1;
}

shift : (i k : ℕ) → i + suc k ≡ suc i + k
shift i k = omega arith

-- a true toss is peeled off
pub true_to : (T : ℕ → Drawing Bool) (i : ℕ) → IsProper (T i) → (w v : List ℕ) → T i w true v →
    (m : ℕ) (r : List ℕ) → TruesThenFalse T i m w r → (k : ℕ) × (m ≡ suc k) × TruesThenFalse T (suc i) k v r
true_to T i one w v h zero r d =
    let f = subst (λ j. T j d.0 false r) (add-zero i) d.2 in
    let q = one.value w true false v r h (subst (λ u. T i u false r) (sym d.1) f) in cc
true_to T i one w v h (suc k) r d =
    let e = one.rest w true true d.1.0 v d.1.1 h in
    (k, refl, (d.0, subst (λ u. Trues T (suc i) k u d.0) e d.1.2, subst (λ j. T j d.0 false r) (shift i k) d.2))

pub true_from : (T : ℕ → Drawing Bool) (i : ℕ) (w v : List ℕ) → T i w true v →
    (k : ℕ) (r : List ℕ) → TruesThenFalse T (suc i) k v r → TruesThenFalse T i (suc k) w r
true_from T i w v h k r d = (d.0, (v, h, d.1), subst (λ j. T j d.0 false r) (sym (shift i k)) d.2)

-- a false one ends the tosses
pub false_from : (T : ℕ → Drawing Bool) (i : ℕ) (w r : List ℕ) → T i w false r → TruesThenFalse T i 0 w r
false_from T i w r h = (w, refl, subst (λ j. T j w false r) (sym (add-zero i)) h)

pub false_to : (T : ℕ → Drawing Bool) (i : ℕ) → IsProper (T i) → (w v : List ℕ) → T i w false v →
    (m : ℕ) (r : List ℕ) → TruesThenFalse T i m w r → (m ≡ 0) × (r ≡ v)
false_to T i one w v h zero r d =
    let f = subst (λ j. T j d.0 false r) (add-zero i) d.2 in
    (refl, one.rest w false false r v (subst (λ u. T i u false r) (sym d.1) f) h)
false_to T i one w v h (suc k) r d = let q = one.value w false true v d.1.0 h d.1.1 in cc

pub no_true : (T : ℕ → Drawing Bool) (i : ℕ) (w : List ℕ) → Ends (T i) w → (m : ℕ) (r : List ℕ) → Trues T i (suc m) w r → ⊥
no_true T i w none m r d = none true d.0 d.1

-- with no toss at the front there is none that is false after true ones
pub no_toss : (T : ℕ → Drawing Bool) (i : ℕ) (w : List ℕ) → Ends (T i) w → (m : ℕ) (r : List ℕ) → TruesThenFalse T i m w r → ⊥
no_toss T i w none zero r d =
    let f = subst (λ j. T j d.0 false r) (add-zero i) d.2 in
    none false r (subst (λ u. T i u false r) (sym d.1) f)
no_toss T i w none (suc m) r d = none true d.1.0 d.1.1

-- single tosses come to one end
pub tosses_proper : (T : ℕ → Drawing Bool) → ((i : ℕ) → IsProper (T i)) → (i m n : ℕ) (w r s : List ℕ) →
    TruesThenFalse T i m w r → TruesThenFalse T i n w s → (m ≡ n) × (r ≡ s)
tosses_proper T one i zero n w r s d e =
    let f = subst (λ j. T j d.0 false r) (add-zero i) d.2 in
    let h = false_to T i (one i) w r (subst (λ u. T i u false r) (sym d.1) f) n s e in
    (sym h.0, sym h.1)
tosses_proper T one i (suc m) n w r s d e =
    let k = true_to T i (one i) w d.1.0 d.1.1 n s e in
    let h = tosses_proper T one (suc i) m k.0 d.1.0 r s (d.0, d.1.2, subst (λ j. T j d.0 false r) (shift i m) d.2) k.2 in
    (ap suc h.0 ∙ sym k.1, h.1)

pub trues_proper : (T : ℕ → Drawing Bool) → ((i : ℕ) → IsProper (T i)) → (i m : ℕ) (w r s : List ℕ) →
    Trues T i m w r → Trues T i m w s → r ≡ s
trues_proper T one i zero w r s d e = sym d ∙ e
trues_proper T one i (suc m) w r s d e =
    let q = (one i).rest w true true e.0 d.0 e.1 d.1 in
    trues_proper T one (suc i) m d.0 r s d.2 (subst (λ u. Trues T (suc i) m u s) q e.2)

-- the tosses are so many true ones, or come to a false one before
pub trues_or_false : (T : ℕ → Drawing Bool) → ((i : ℕ) → IsProper (T i)) → (i m k : ℕ) (w r s : List ℕ) →
    Trues T i m w r → TruesThenFalse T i k w s → k < m → ⊥
trues_or_false T one i zero k w r s d e h = absurd (omega arith)
trues_or_false T one i (suc m) k w r s d e h =
    let q = true_to T i (one i) w d.0 d.1 k s e in
    let less : q.0 < m = omega arith in
    trues_or_false T one (suc i) m q.0 d.0 r s d.2 q.2 less

-- each toss takes a word
pub trues_take : (T : ℕ → Drawing Bool) → ((i : ℕ) → IsProper (T i)) → (i m : ℕ) (w r : List ℕ) → Trues T i m w r → length r + m ≤ length w
trues_take T one i zero w r d = let e = ap length d in omega arith
trues_take T one i (suc m) w r d =
    let h = (one i).takes w true d.0 d.1 in
    let k = trues_take T one (suc i) m d.0 r d.2 in
    omega arith

pub tosses_take : (T : ℕ → Drawing Bool) → ((i : ℕ) → IsProper (T i)) → (i m : ℕ) (w r : List ℕ) → TruesThenFalse T i m w r → length r < length w
tosses_take T one i m w r d =
    let h = trues_take T one i m w d.0 d.1 in
    let k = (one (i + m)).takes d.0 false r d.2 in
    omega arith
