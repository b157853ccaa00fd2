-- Filters over a range of numbers, and the first number that passes a test.
use Rattle.std.proofs.Common.{◌≡◌, ℕ, zero, suc, ◌+◌, ◌<◌, ◌≤◌, Bool, true, false, cond, ◌&&◌, List, [], ◌∷◌, ◌++◌, length, get_or, map, filter, find, Option, Some, None, refl, sym, ap, ◌∙◌, arith, ◌⊎◌, inl, inr, add-zero}
use Rattle.std.specs.List.{list_all, range_with_len, position_or_len, slice_get}
use Rattle.std.specs.Option.{option_or}
use Rattle.std.proofs.lemmas.Bool.{and_from, cases_eq, cases_lt, false≢true}
use Rattle.std.proofs.lemmas.List.{append-nil, map-id}
use Rattle.std.proofs.lemmas.List.Elements.{filter-append}
use Rattle.std.proofs.lemmas.List.Folds.{find-append, find_at, list_all-append, list_all_at}
use Rattle.std.proofs.lemmas.List.Sums.{fails_before_first, passes_at_first}
use Rattle.std.proofs.lemmas.List.FromFn.{length-range_with_len, get_or-range_with_len, map-range_with_len_more}
use Rattle.std.proofs.lemmas.Option.{slice_get_within, slice_get-get_or, get_or_from_slice_get, none-some}
use Rattle.tda_model.proofs.Sums.{Each}

filter_step : {X : Type 0} (p q : X → Bool) (x : X) (xs : List X) → filter p (filter q xs) ≡ filter (λ y. q y && p y) xs
    → (b c : Bool) → p x ≡ c → filter p (cond b (x ∷ filter q xs) (filter q xs)) ≡ cond (b && c) (x ∷ filter (λ y. q y && p y) xs) (filter (λ y. q y && p y) xs)
filter_step p q x xs rest true true e = rw e (ap (λ ys. x ∷ ys) rest)
filter_step p q x xs rest true false e = rw e rest
filter_step p q x xs rest false c e = rest

pub filter-filter : {X : Type 0} (p q : X → Bool) (xs : List X) → filter p (filter q xs) ≡ filter (λ x. q x && p x) xs
filter-filter p q [] = refl
filter-filter p q (x ∷ xs) = filter_step p q x xs (filter-filter p q xs) (q x) (p x) refl

pub filter_all : {X : Type 0} (p : X → Bool) (xs : List X) → Each (λ x. p x ≡ true) xs → filter p xs ≡ xs
filter_all p [] h = refl
filter_all p (x ∷ xs) h = rw h.0 (ap (λ ys. x ∷ ys) (filter_all p xs h.1))

pub filter_range_agree : (p q : ℕ → Bool) (a n : ℕ) → ((i : ℕ) → a ≤ i → i < a + n → p i ≡ q i) → filter p (range_with_len a n) ≡ filter q (range_with_len a n)
filter_range_agree p q a zero same = refl
filter_range_agree p q a (suc n) same =
    let rest = filter_range_agree p q (a + 1) n (λ i low high. same i (omega arith) (omega arith)) in
    rw (same a (omega arith) (omega arith), rest) refl

pub map_range_agree : {Y : Type 0} (f g : ℕ → Y) (a n : ℕ) → ((i : ℕ) → a ≤ i → i < a + n → f i ≡ g i) → map f (range_with_len a n) ≡ map g (range_with_len a n)
map_range_agree f g a zero same = refl
map_range_agree f g a (suc n) same =
    let rest = map_range_agree f g (a + 1) n (λ i low high. same i (omega arith) (omega arith)) in
    rw (same a (omega arith) (omega arith), rest) refl

pub range_more : (n : ℕ) → range_with_len 0 (n + 1) ≡ range_with_len 0 n ++ n ∷ []
range_more n = sym (map-id (range_with_len 0 (n + 1))) ∙ map-range_with_len_more (λ x. x) 0 n n (omega arith) ∙ ap (λ xs. xs ++ n ∷ []) (map-id (range_with_len 0 n))

-- a loop's step: the next element of a list that is made by a function of the place
pub map_range_push : {Y : Type 0} (f : ℕ → Y) (n : ℕ) (before after : List Y) (y : Y) → after ≡ before ++ y ∷ [] → before ≡ map f (range_with_len 0 n) → y ≡ f n
    → after ≡ map f (range_with_len 0 (n + 1))
map_range_push f n before after y pushed so_far is = cc (pushed, so_far, is, map-range_with_len_more f 0 n n (omega arith))

-- a loop's step: the numbers so far that pass
module _ (p : ℕ → Bool) (n : ℕ) where
  one_more : filter p (range_with_len 0 (n + 1)) ≡ filter p (range_with_len 0 n) ++ cond (p n) (n ∷ []) []
  one_more = ap (filter p) (range_more n) ∙ filter-append p (range_with_len 0 n) (n ∷ [])

  pub filter_range_push : p n ≡ true → filter p (range_with_len 0 (n + 1)) ≡ filter p (range_with_len 0 n) ++ n ∷ []
  filter_range_push passes = one_more ∙ ap (λ b. filter p (range_with_len 0 n) ++ cond b (n ∷ []) []) passes

  pub filter_range_skip : p n ≡ false → filter p (range_with_len 0 (n + 1)) ≡ filter p (range_with_len 0 n)
  filter_range_skip fails = one_more ∙ ap (λ b. filter p (range_with_len 0 n) ++ cond b (n ∷ []) []) fails ∙ append-nil (filter p (range_with_len 0 n))

-- a loop over a range that stops at a number that fails
module _ (p : ℕ → Bool) where
  pub all_more : (n : ℕ) → list_all p (range_with_len 0 n) ≡ true → p n ≡ true → list_all p (range_with_len 0 (n + 1)) ≡ true
  all_more n so_far here =
      ap (list_all p) (range_more n) ∙ list_all-append p (range_with_len 0 n) (n ∷ []) ∙ and_from (list_all p (range_with_len 0 n)) (p n && true) so_far (and_from (p n) true here refl)

  pub all_fails : (n i : ℕ) → i < n → p i ≡ false → list_all p (range_with_len 0 n) ≡ false
  all_fails n i below fails =
      list_all_at p (range_with_len 0 n) i 0 (omega (arith, length-range_with_len 0 n)) (ap p (get_or-range_with_len 0 n i 0 below ∙ (omega arith)) ∙ fails)

-- the first number below n that passes
pub record IsFirst (p : ℕ → Bool) (n r : ℕ) : Type 0 where
  pub below : r < n
  pub passes : p r ≡ true
  pub none_before : (j : ℕ) → j < r → p j ≡ false

module _ (p : ℕ → Bool) where
  pub find_range_more : (n : ℕ) → find p (range_with_len 0 (n + 1)) ≡ option_or (find p (range_with_len 0 n)) (cond (p n) (Some n) None)
  find_range_more n = ap (find p) (range_more n) ∙ find-append p (range_with_len 0 n) (n ∷ [])

  first_is : (n r : ℕ) → slice_get (range_with_len 0 n) (position_or_len p (range_with_len 0 n)) ≡ Some r → IsFirst p n r
  first_is n r found =
      let xs = range_with_len 0 n in
      let at = position_or_len p xs in
      let within : at < length xs = slice_get_within xs at r found in
      let below : at < n = omega (arith, length-range_with_len 0 n) in
      let is : r ≡ at = sym (get_or_from_slice_get xs at r 0 found) ∙ get_or-range_with_len 0 n at 0 below ∙ (omega arith) in
      let here : p (get_or xs at 0) ≡ true = passes_at_first p xs 0 within in
      record {
        below = omega arith;
        passes = ap p (sym (get_or_from_slice_get xs at r 0 found)) ∙ here;
        none_before = λ j before.
            let lower : j < at = omega arith in
            let e : get_or xs j 0 ≡ j = get_or-range_with_len 0 n j 0 (omega arith) ∙ (omega arith) in
            ap p (sym e) ∙ fails_before_first p xs j 0 lower;
      }

  pub find_Some : (n r : ℕ) → find p (range_with_len 0 n) ≡ Some r → IsFirst p n r
  find_Some n r found = first_is n r (sym (find_at p (range_with_len 0 n)) ∙ found)

  pub find_None : (n : ℕ) → find p (range_with_len 0 n) ≡ None → (j : ℕ) → j < n → p j ≡ false
  find_None n none j below =
      let xs = range_with_len 0 n in
      let at = position_or_len p xs in
      let e : get_or xs j 0 ≡ j = get_or-range_with_len 0 n j 0 below ∙ (omega arith) in
      elim (cases_lt at (length xs)) [
        | inl within ↦ absurd (none-some (get_or xs at 0) (sym none ∙ find_at p xs ∙ slice_get-get_or xs at 0 within))
        | inr past ↦ ap p (sym e) ∙ fails_before_first p xs j 0 (omega (arith, length-range_with_len 0 n))
      ]

  head_from : (a n r d : ℕ) → a ≤ r → r < a + n → p r ≡ true → ((j : ℕ) → a ≤ j → j < r → p j ≡ false) → get_or (filter p (range_with_len a n)) 0 d ≡ r
  head_from a zero r d low high passes before = absurd (omega arith)
  head_from a (suc n) r d low high passes before =
      elim (cases_eq a r) [
        | inl e ↦ let here : p a ≡ true = ap p e ∙ passes in rw here e
        | inr other ↦
            let here : p a ≡ false = before a (omega arith) (omega arith) in
            rw here (head_from (a + 1) n r d (omega arith) (omega arith) passes (λ j low high. before j (omega arith) high))
      ]

  pub head_is : (n r d : ℕ) → IsFirst p n r → get_or (filter p (range_with_len 0 n)) 0 d ≡ r
  head_is n r d first = head_from 0 n r d (omega arith) (omega (arith, first.below)) first.passes (λ j low high. first.none_before j high)

  pub first_exists : (i : ℕ) → p i ≡ true → (r : ℕ) × (r ≤ i) × IsFirst p (i + 1) r
  first_exists i passes = by (find p (range_with_len 0 (i + 1))) refl
    where
      by : (o : Option ℕ) → find p (range_with_len 0 (i + 1)) ≡ o → (r : ℕ) × (r ≤ i) × IsFirst p (i + 1) r
      by (Some r) found = let first = find_Some (i + 1) r found in (r, omega (arith, first.below), first)
      by None none = absurd (false≢true (sym (find_None (i + 1) none i (omega arith)) ∙ passes))
