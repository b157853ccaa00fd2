-- The one number of a range that passes, and what all or some numbers of a range pass.
use Rattle.std.proofs.Common.{◌≡◌, ℕ, zero, suc, ◌+◌, ◌<◌, ◌≤◌, Bool, true, false, ◌&&◌, cond, List, [], ◌∷◌, Some, None, refl, ap, ◌∙◌, inl, inr, arith, eq-or-lt_of_le}
use Rattle.std.proofs.lemmas.Bool.{cases_Bool}
use Rattle.std.specs.List.{find, filter, list_all, list_any, range_with_len}

pub find-filter : {X : Type 0} (p q : X → Bool) (xs : List X) → find p (filter q xs) ≡ find (λ x. q x && p x) xs
find-filter p q [] = refl
find-filter {X} p q (x ∷ xs) = by (q x) (find-filter p q xs)
  where
    by : (b : Bool) → find p (filter q xs) ≡ find (λ y. q y && p y) xs → find p (cond b (x ∷ filter q xs) (filter q xs)) ≡ cond (b && p x) (Some x) (find (λ y. q y && p y) xs)
    by true e = ap (λ r. cond (p x) (Some x) r) e
    by false e = e

none_from : (p : ℕ → Bool) (a n : ℕ) → ((i : ℕ) → a ≤ i → i < a + n → p i ≡ false) → find p (range_with_len a n) ≡ None
none_from p a zero fails = refl
none_from p a (suc n) fails =
    let here = fails a (omega arith) (omega arith) in
    rw here (none_from p (a + 1) n (λ i low high. fails i (omega arith) (omega arith)))

one_from : (p : ℕ → Bool) (a n j : ℕ) → a ≤ j → j < a + n → p j ≡ true → ((i : ℕ) → a ≤ i → i < a + n → p i ≡ true → i ≡ j) → find p (range_with_len a n) ≡ Some j
one_from p a zero j low high passes alone = absurd (omega arith)
one_from p a (suc n) j low high passes alone = elim (cases_Bool (p a)) [
  | inl here ↦ rw here (ap Some (alone a (omega arith) (omega arith) here))
  | inr fails ↦ elim (eq-or-lt_of_le low) [
    | inl is ↦ cc (ap p is)
    | inr less ↦ rw fails (one_from p (a + 1) n j (omega arith) (omega arith) passes (λ i l h. alone i (omega arith) (omega arith)))
  ]
]

module _ (p q : ℕ → Bool) (n : ℕ) where
  -- of the numbers that q keeps, none passes
  pub none_kept : ((i : ℕ) → i < n → q i ≡ true → p i ≡ true → ⊥) → find p (filter q (range_with_len 0 n)) ≡ None
  none_kept none = find-filter p q (range_with_len 0 n) ∙ none_from (λ i. q i && p i) 0 n (λ i low high. fails i (omega arith))
    where
      fails : (i : ℕ) → i < n → (q i && p i) ≡ false
      fails i below = elim (cases_Bool (q i)) [
        | inl kept ↦ elim (cases_Bool (p i)) [
          | inl passes ↦ absurd (none i below kept passes)
          | inr other ↦ rw (kept, other) refl
        ]
        | inr left ↦ rw left refl
      ]

  -- of the numbers that q keeps, j alone passes
  pub one_kept : (j : ℕ) → j < n → q j ≡ true → p j ≡ true → ((i : ℕ) → i < n → p i ≡ true → i ≡ j) → find p (filter q (range_with_len 0 n)) ≡ Some j
  one_kept j below kept passes alone =
      find-filter p q (range_with_len 0 n)
      ∙ one_from (λ i. q i && p i) 0 n j (omega arith) (omega arith) (rw (kept, passes) refl) (λ i low high both. alone i (omega arith) (second (q i) (p i) both))
    where
      second : (a b : Bool) → (a && b) ≡ true → b ≡ true
      second true b e = e
      second false b e = cc e

all_from : (p : ℕ → Bool) (a n : ℕ) → ((i : ℕ) → a ≤ i → i < a + n → p i ≡ true) → list_all p (range_with_len a n) ≡ true
all_from p a zero passes = refl
all_from p a (suc n) passes =
    let here = passes a (omega arith) (omega arith) in
    rw here (all_from p (a + 1) n (λ i low high. passes i (omega arith) (omega arith)))

pub all_pass : (p : ℕ → Bool) (n : ℕ) → ((i : ℕ) → i < n → p i ≡ true) → list_all p (range_with_len 0 n) ≡ true
all_pass p n passes = all_from p 0 n (λ i low high. passes i (omega arith))

passes_from : (p : ℕ → Bool) (a n : ℕ) → list_all p (range_with_len a n) ≡ true → (i : ℕ) → a ≤ i → i < a + n → p i ≡ true
passes_from p a zero all i low high = absurd (omega arith)
passes_from p a (suc n) all i low high = elim (cases_Bool (p a)) [
  | inl here ↦ elim (eq-or-lt_of_le low) [
    | inl is ↦ rw (← is) here
    | inr less ↦ passes_from p (a + 1) n (rw here at all) i (omega arith) (omega arith)
  ]
  | inr fails ↦ cc (rw fails at all)
]

pub each_passes : (p : ℕ → Bool) (n : ℕ) → list_all p (range_with_len 0 n) ≡ true → (i : ℕ) → i < n → p i ≡ true
each_passes p n all i below = passes_from p 0 n all i (omega arith) (omega arith)

none_any : (p : ℕ → Bool) (a n : ℕ) → ((i : ℕ) → a ≤ i → i < a + n → p i ≡ false) → list_any p (range_with_len a n) ≡ false
none_any p a zero fails = refl
none_any p a (suc n) fails =
    let here = fails a (omega arith) (omega arith) in
    rw here (none_any p (a + 1) n (λ i low high. fails i (omega arith) (omega arith)))

pub none_passes : (p : ℕ → Bool) (n : ℕ) → ((i : ℕ) → i < n → p i ≡ false) → list_any p (range_with_len 0 n) ≡ false
none_passes p n fails = none_any p 0 n (λ i low high. fails i (omega arith))

any_from : (p : ℕ → Bool) (a n i : ℕ) → a ≤ i → i < a + n → p i ≡ true → list_any p (range_with_len a n) ≡ true
any_from p a zero i low high passes = absurd (omega arith)
any_from p a (suc n) i low high passes = elim (cases_Bool (p a)) [
  | inl here ↦ rw here refl
  | inr fails ↦ elim (eq-or-lt_of_le low) [
    | inl is ↦ cc (ap p is)
    | inr less ↦ rw fails (any_from p (a + 1) n i (omega arith) (omega arith) passes)
  ]
]

pub one_passes : (p : ℕ → Bool) (n i : ℕ) → i < n → p i ≡ true → list_any p (range_with_len 0 n) ≡ true
one_passes p n i below passes = any_from p 0 n i (omega arith) (omega arith) passes
