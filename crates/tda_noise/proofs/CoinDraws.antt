-- Coins: at most one stands at the front of any words, and true tosses are peeled off.
use Rattle.std.proofs.Common.{ℕ, suc, ◌≡◌, ◌+◌, ◌*◌, ◌%◌, ◌/◌, ◌-◌, ◌<◌, ◌≤◌, ◌⊎◌, ◌↔◌, inl, inr, Bool, true, false, IsTrue, List, [], ◌∷◌, length, refl, sym, subst, arith, add-zero, add-one, ◌∙◌}
use Rattle.std.proofs.lemmas.Bool.{cases_lt}
use Rattle.tda_noise.specs.Draws.{Drawing, Ends, IsUniform, IsCoin, Trues, TruesThenFalse, IsSmallExponential, IsOneOverE, IsExponential}
use Rattle.tda_noise.proofs.Peel.{IsProper, Leads, leads_on, true_to, true_from, false_from, no_toss, tosses_proper, tosses_take, trues_proper, trues_take, trues_or_false}
use Rattle.tda_noise.proofs.UniformDraws.{uniform_proper}

pub says_same : (b c : Bool) (P : Type 0) → (IsTrue b ↔ P) → (IsTrue c ↔ P) → b ≡ c
says_same true true P f g = refl
says_same false false P f g = refl
says_same true false P f g = sym (g.1 (f.0 refl))
says_same false true P f g = f.1 (g.0 refl)

coin_both : (n d : ℕ) (w : List ℕ) (b c : Bool) (r s : List ℕ) → IsCoin n d w b r → IsCoin n d w c s → (b ≡ c) × (r ≡ s)
coin_both n d w b c r s x y =
    let u : y.0 ≡ x.0 = (uniform_proper d).value w y.0 x.0 s r y.1 x.1 in
    let says : IsTrue c ↔ (x.0 < n) = subst (λ v. IsTrue c ↔ (v < n)) u y.2 in
    (says_same b c (x.0 < n) x.2 says, (uniform_proper d).rest w x.0 y.0 r s x.1 y.1)

pub coin_proper : (n d : ℕ) → IsProper (IsCoin n d)
coin_proper n d = record {
  value = λ w b c r s x y. (coin_both n d w b c r s x y).0;
  rest = λ w b c r s x y. (coin_both n d w b c r s x y).1;
  takes = λ w b r x. (uniform_proper d).takes w x.0 r x.1;
}

pub no_coin : (n d : ℕ) (w : List ℕ) → Ends (IsUniform d) w → Ends (IsCoin n d) w
no_coin n d w none b r x = none x.0 r x.1

-- no draw stands at the front of no words
pub nothing_left : {A : Type 0} (Draws : Drawing A) → IsProper Draws → (w : List ℕ) → length w ≡ 0 → Ends Draws w
nothing_left Draws one w e x r d = let h = one.takes w x r d in absurd (omega arith)

pub empty : (w : List ℕ) → length w ≡ 0 → w ≡ []
empty [] e = refl
empty (x ∷ w) e = absurd (omega arith)

-- the small exponential coin from its i-th toss on
abbrev pub SmallFrom : ℕ → ℕ → ℕ → Drawing Bool
SmallFrom n d i w b r = (trues : ℕ) × TruesThenFalse (λ j. IsCoin n (d * j)) i trues w r × (IsTrue b ↔ ((i + trues) % 2 ≡ 1))

shift : (i k m : ℕ) → m ≡ suc k → i + m ≡ suc i + k
shift i k m e = omega arith

pub small_true : (n d i : ℕ) (w v : List ℕ) → IsCoin n (d * i) w true v → Leads (SmallFrom n d i) w (SmallFrom n d (suc i)) v
small_true n d i w v h = record {
  to = λ b r x.
      let k = true_to (λ j. IsCoin n (d * j)) i (coin_proper n (d * i)) w v h x.0 r x.1 in
      (k.0, k.2, subst (λ m. IsTrue b ↔ (m % 2 ≡ 1)) (shift i k.0 x.0 k.1) x.2);
  from = λ b r x.
      (suc x.0, true_from (λ j. IsCoin n (d * j)) i w v h x.0 r x.1, subst (λ m. IsTrue b ↔ (m % 2 ≡ 1)) (sym (shift i x.0 (suc x.0) refl)) x.2);
}

pub small_false : (n d i : ℕ) (w v : List ℕ) (b : Bool) → IsCoin n (d * i) w false v → (IsTrue b ↔ (i % 2 ≡ 1)) → SmallFrom n d i w b v
small_false n d i w v b h says =
    (0, false_from (λ j. IsCoin n (d * j)) i w v h, subst (λ m. IsTrue b ↔ (m % 2 ≡ 1)) (sym (add-zero i)) says)

pub small_none : (n d i : ℕ) (w : List ℕ) → Ends (IsCoin n (d * i)) w → Ends (SmallFrom n d i) w
small_none n d i w none b r x = no_toss (λ j. IsCoin n (d * j)) i w none x.0 r x.1

-- with no word left there is no such coin
pub small_ended : (n d i : ℕ) (before w : List ℕ) → Leads (IsSmallExponential n d) before (SmallFrom n d i) w → length w ≡ 0 →
    Ends (IsSmallExponential n d) before × (w ≡ [])
small_ended n d i before w h e =
    let none = small_none n d i w (nothing_left (IsCoin n (d * i)) (coin_proper n (d * i)) w e) in
    (λ b r x. none b r (h.to b r x), empty w e)

small_both : (n d i : ℕ) (w : List ℕ) (b c : Bool) (r s : List ℕ) → SmallFrom n d i w b r → SmallFrom n d i w c s → (b ≡ c) × (r ≡ s)
small_both n d i w b c r s x y =
    let T : ℕ → Drawing Bool = λ j. IsCoin n (d * j) in
    let k = tosses_proper T (λ j. coin_proper n (d * j)) i y.0 x.0 w s r y.1 x.1 in
    let says : IsTrue c ↔ ((i + x.0) % 2 ≡ 1) = subst (λ m. IsTrue c ↔ ((i + m) % 2 ≡ 1)) k.0 y.2 in
    (says_same b c ((i + x.0) % 2 ≡ 1) x.2 says, sym k.1)

pub small_proper : (n d i : ℕ) → IsProper (SmallFrom n d i)
small_proper n d i = record {
  value = λ w b c r s x y. (small_both n d i w b c r s x y).0;
  rest = λ w b c r s x y. (small_both n d i w b c r s x y).1;
  takes = λ w b r x. tosses_take (λ j. IsCoin n (d * j)) (λ j. coin_proper n (d * j)) i x.0 w r x.1;
}

pub one_over_e_proper : (i : ℕ) → IsProper (IsOneOverE i)
one_over_e_proper i = small_proper 1 1 1

-- the exponential coin of n and d with n greater than d, from the j-th of its coins of chance 1 / e on
abbrev pub LargeFrom : ℕ → ℕ → ℕ → ℕ → Drawing Bool
LargeFrom n d j left w b r =
    ((trues : ℕ) × (trues < left) × TruesThenFalse IsOneOverE j trues w r × (b ≡ false))
    ⊎ ((rest : List ℕ) × Trues IsOneOverE j left w rest × IsSmallExponential (n % d) d rest b r)

small_to : (n d : ℕ) (w : List ℕ) (b : Bool) (r : List ℕ) → n ≤ d → IsExponential n d w b r → IsSmallExponential n d w b r
small_to n d w b r h (inl x) = x.1
small_to n d w b r h (inr (inl x)) = let k = x.0 in absurd (omega arith)
small_to n d w b r h (inr (inr x)) = let k = x.0 in absurd (omega arith)

pub small_start : (n d : ℕ) (w : List ℕ) → n ≤ d → Leads (IsExponential n d) w (IsSmallExponential n d) w
small_start n d w h = record { to = λ b r x. small_to n d w b r h x; from = λ b r x. inl (h, x) }

large_to : (n d : ℕ) (w : List ℕ) (b : Bool) (r : List ℕ) → d < n → IsExponential n d w b r → LargeFrom n d 0 (n / d) w b r
large_to n d w b r h (inl x) = let k = x.0 in absurd (omega arith)
large_to n d w b r h (inr (inl x)) = inl (x.1, x.2, x.3, x.4)
large_to n d w b r h (inr (inr x)) = inr (x.1, x.2, x.3)

large_from : (n d : ℕ) (w : List ℕ) (b : Bool) (r : List ℕ) → d < n → LargeFrom n d 0 (n / d) w b r → IsExponential n d w b r
large_from n d w b r h (inl x) = inr (inl (h, x.0, x.1, x.2, x.3))
large_from n d w b r h (inr x) = inr (inr (h, x.0, x.1, x.2))

pub large_start : (n d : ℕ) (w : List ℕ) → d < n → Leads (IsExponential n d) w (LargeFrom n d 0 (n / d)) w
large_start n d w h = record { to = λ b r x. large_to n d w b r h x; from = λ b r x. large_from n d w b r h x }

large_true_to : (n d j left : ℕ) (w v : List ℕ) → IsOneOverE j w true v → (b : Bool) (r : List ℕ) →
    LargeFrom n d j (suc left) w b r → LargeFrom n d (suc j) left v b r
large_true_to n d j left w v h b r (inl x) =
    let k = true_to IsOneOverE j (one_over_e_proper j) w v h x.0 r x.2 in
    let less : k.0 < left = let a = x.1 in let e = k.1 in omega arith in
    inl (k.0, less, k.2, x.3)
large_true_to n d j left w v h b r (inr x) =
    let e = (one_over_e_proper j).rest w true true x.1.0 v x.1.1 h in
    inr (x.0, subst (λ u. Trues IsOneOverE (suc j) left u x.0) e x.1.2, x.2)

large_true_from : (n d j left : ℕ) (w v : List ℕ) → IsOneOverE j w true v → (b : Bool) (r : List ℕ) →
    LargeFrom n d (suc j) left v b r → LargeFrom n d j (suc left) w b r
large_true_from n d j left w v h b r (inl x) =
    let a = x.1 in
    let less : suc x.0 < suc left = omega arith in
    inl (suc x.0, less, true_from IsOneOverE j w v h x.0 r x.2, x.3)
large_true_from n d j left w v h b r (inr x) = inr (x.0, (v, h, x.1), x.2)

pub large_true : (n d j left : ℕ) (w v : List ℕ) → IsOneOverE j w true v → Leads (LargeFrom n d j (suc left)) w (LargeFrom n d (suc j) left) v
large_true n d j left w v h = record {
  to = λ b r x. large_true_to n d j left w v h b r x;
  from = λ b r x. large_true_from n d j left w v h b r x;
}

pub large_false : (n d j left : ℕ) (w v : List ℕ) → IsOneOverE j w false v → LargeFrom n d j (suc left) w false v
large_false n d j left w v h =
    let some : 0 < suc left = omega arith in
    inl (0, some, false_from IsOneOverE j w v h, refl)

pub large_none : (n d j left : ℕ) (w : List ℕ) → Ends (IsOneOverE j) w → Ends (LargeFrom n d j (suc left)) w
large_none n d j left w none b r (inl x) = no_toss IsOneOverE j w none x.0 r x.2
large_none n d j left w none b r (inr x) = none true x.1.0 x.1.1

large_end_to : (n d j : ℕ) (w : List ℕ) (b : Bool) (r : List ℕ) → LargeFrom n d j 0 w b r → IsSmallExponential (n % d) d w b r
large_end_to n d j w b r (inl x) = let h = x.1 in absurd (omega arith)
large_end_to n d j w b r (inr x) = subst (λ u. IsSmallExponential (n % d) d u b r) (sym x.1) x.2

pub large_end : (n d j : ℕ) (w : List ℕ) → Leads (LargeFrom n d j 0) w (IsSmallExponential (n % d) d) w
large_end n d j w = record {
  to = λ b r x. large_end_to n d j w b r x;
  from = λ b r x. inr (w, refl, x);
}

large_both : (n d left : ℕ) (w : List ℕ) (b c : Bool) (r s : List ℕ) →
    LargeFrom n d 0 left w b r → LargeFrom n d 0 left w c s → (b ≡ c) × (r ≡ s)
large_both n d left w b c r s (inl x) (inl y) =
    (x.3 ∙ sym y.3, (tosses_proper IsOneOverE one_over_e_proper 0 x.0 y.0 w r s x.2 y.2).1)
large_both n d left w b c r s (inl x) (inr y) =
    absurd (trues_or_false IsOneOverE one_over_e_proper 0 left x.0 w y.0 r y.1 x.2 x.1)
large_both n d left w b c r s (inr x) (inl y) =
    absurd (trues_or_false IsOneOverE one_over_e_proper 0 left y.0 w x.0 s x.1 y.2 y.1)
large_both n d left w b c r s (inr x) (inr y) =
    let e = trues_proper IsOneOverE one_over_e_proper 0 left w y.0 x.0 y.1 x.1 in
    small_both (n % d) d 1 x.0 b c r s x.2 (subst (λ u. IsSmallExponential (n % d) d u c s) e y.2)

exponential_by : (n d : ℕ) (w : List ℕ) (b c : Bool) (r s : List ℕ) → (d < n) ⊎ (n ≤ d) →
    IsExponential n d w b r → IsExponential n d w c s → (b ≡ c) × (r ≡ s)
exponential_by n d w b c r s (inl h) x y = large_both n d (n / d) w b c r s (large_to n d w b r h x) (large_to n d w c s h y)
exponential_by n d w b c r s (inr h) x y = small_both n d 1 w b c r s (small_to n d w b r h x) (small_to n d w c s h y)

exponential_takes : (n d : ℕ) (w : List ℕ) (b : Bool) (r : List ℕ) → IsExponential n d w b r → length r < length w
exponential_takes n d w b r (inl x) = (small_proper n d 1).takes w b r x.1
exponential_takes n d w b r (inr (inl x)) = tosses_take IsOneOverE one_over_e_proper 0 x.1 w r x.3
exponential_takes n d w b r (inr (inr x)) =
    let h = trues_take IsOneOverE one_over_e_proper 0 (n / d) w x.1 x.2 in
    let k = (small_proper (n % d) d 1).takes x.1 b r x.3 in
    omega arith

pub exponential_proper : (n d : ℕ) → IsProper (IsExponential n d)
exponential_proper n d = record {
  value = λ w b c r s x y. (exponential_by n d w b c r s (cases_lt d n) x y).0;
  rest = λ w b c r s x y. (exponential_by n d w b c r s (cases_lt d n) x y).1;
  takes = exponential_takes n d;
}

-- of all the coins of chance 1 / e, those from the j-th on
left_is : (all j : ℕ) → j < all → all - j ≡ suc (all - suc j)
left_is all j h = omega arith

pub large_true_at : (n d all j : ℕ) (before w v : List ℕ) → Leads (IsExponential n d) before (LargeFrom n d j (all - j)) w →
    j < all → IsOneOverE j w true v → Leads (IsExponential n d) before (LargeFrom n d (j + 1) (all - (j + 1))) v
large_true_at n d all j before w v h more coin =
    let k = subst (λ left. Leads (IsExponential n d) before (LargeFrom n d j left) w) (left_is all j more) h in
    rw add-one (leads_on k (large_true n d j (all - suc j) w v coin))

pub large_false_at : (n d all j : ℕ) (before w v : List ℕ) → Leads (IsExponential n d) before (LargeFrom n d j (all - j)) w →
    j < all → IsOneOverE j w false v → IsExponential n d before false v
large_false_at n d all j before w v h more coin =
    let k = subst (λ left. Leads (IsExponential n d) before (LargeFrom n d j left) w) (left_is all j more) h in
    k.from false v (large_false n d j (all - suc j) w v coin)

pub large_none_at : (n d all j : ℕ) (before w : List ℕ) → Leads (IsExponential n d) before (LargeFrom n d j (all - j)) w →
    j < all → Ends (IsOneOverE j) w → Ends (IsExponential n d) before
large_none_at n d all j before w h more none b r x =
    let k = subst (λ left. Leads (IsExponential n d) before (LargeFrom n d j left) w) (left_is all j more) h in
    large_none n d j (all - suc j) w none b r (k.to b r x)

pub large_end_at : (n d all j : ℕ) (before w : List ℕ) → Leads (IsExponential n d) before (LargeFrom n d j (all - j)) w →
    all ≤ j → Leads (IsExponential n d) before (IsSmallExponential (n % d) d) w
large_end_at n d all j before w h end =
    let e : all - j ≡ 0 = omega arith in
    let k = subst (λ left. Leads (IsExponential n d) before (LargeFrom n d j left) w) e h in
    leads_on k (large_end n d j w)
