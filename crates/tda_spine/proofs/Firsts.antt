-- A loop that ends at the first element that passes.
use Rattle.std.proofs.Common.{◌≡◌, ℕ, ◌+◌, ◌<◌, ◌≤◌, Bool, true, false, cond, List, [], ◌∷◌, length, get_or, map, drop, Some, None, refl, sym, ap, ◌∙◌, arith}
use Rattle.std.specs.List.{find, range_with_len}
use Rattle.std.specs.Option.{option_map}
use Rattle.std.proofs.Math.ListN.{drop_of_length-le}
use Rattle.std.proofs.lemmas.List.{drop_more}
use Rattle.std.proofs.lemmas.List.FromFn.{length-range_with_len, get_or-range_with_len}
use Rattle.tda_model.proofs.Sums.{Each}

module _ {X : Type 0} (p : X → Bool) (xs : List X) where
  -- the elements before this place fail
  abbrev pub FailsBefore : ℕ → Type 0
  FailsBefore k = find p (drop k xs) ≡ find p xs

  module _ (k : ℕ) (before : FailsBefore k) where
    step : (d : X) → k < length xs → cond (p (get_or xs k d)) (Some (get_or xs k d)) (find p (drop (k + 1) xs)) ≡ find p xs
    step d below = sym (ap (find p) (drop_more xs k d below)) ∙ before

    pub fails_here : (d : X) → k < length xs → p (get_or xs k d) ≡ false → FailsBefore (k + 1)
    fails_here d below fails = sym (ap (λ b. cond b (Some (get_or xs k d)) (find p (drop (k + 1) xs))) fails) ∙ step d below

    pub passes_here : (d : X) → k < length xs → p (get_or xs k d) ≡ true → Some (get_or xs k d) ≡ find p xs
    passes_here d below passes = sym (ap (λ b. cond b (Some (get_or xs k d)) (find p (drop (k + 1) xs))) passes) ∙ step d below

    pub none_pass : length xs ≤ k → None ≡ find p xs
    none_pass all = sym (ap (find p) (drop_of_length-le xs all)) ∙ before

-- the same over numbers
module _ (p : ℕ → Bool) (n k : ℕ) (before : FailsBefore p (range_with_len 0 n) k) where
  number : k < n → get_or (range_with_len 0 n) k 0 ≡ k
  number below = get_or-range_with_len 0 n k 0 below ∙ omega arith

  pub number_fails : k < n → p k ≡ false → FailsBefore p (range_with_len 0 n) (k + 1)
  number_fails below fails =
      fails_here p (range_with_len 0 n) k before 0 (omega (arith, length-range_with_len 0 n)) (ap p (number below) ∙ fails)

  pub number_passes : k < n → p k ≡ true → Some k ≡ find p (range_with_len 0 n)
  number_passes below passes =
      ap Some (sym (number below))
      ∙ passes_here p (range_with_len 0 n) k before 0 (omega (arith, length-range_with_len 0 n)) (ap p (number below) ∙ passes)

  pub no_number : n ≤ k → None ≡ find p (range_with_len 0 n)
  no_number all = none_pass p (range_with_len 0 n) k before (omega (arith, length-range_with_len 0 n))

-- where none is found each fails
pub none_found : {X : Type 0} (p : X → Bool) (xs : List X) → find p xs ≡ None → Each (λ x. p x ≡ false) xs
none_found p [] e = tt
none_found {X} p (x ∷ xs) e = by (p x) refl e (none_found p xs)
  where
    by : (b : Bool) → p x ≡ b → cond b (Some x) (find p xs) ≡ None → (find p xs ≡ None → Each (λ y. p y ≡ false) xs) → (p x ≡ false) × Each (λ y. p y ≡ false) xs
    by true is none rest = cc
    by false is none rest = (is, rest none)

pub find-map : {X Y : Type 0} (f : X → Y) (p : Y → Bool) (xs : List X) → find p (map f xs) ≡ option_map f (find (λ x. p (f x)) xs)
find-map f p [] = refl
find-map {X} {Y} f p (x ∷ xs) = by (p (f x)) (find-map f p xs)
  where
    by : (b : Bool) → find p (map f xs) ≡ option_map f (find (λ y. p (f y)) xs)
        → cond b (Some (f x)) (find p (map f xs)) ≡ option_map f (cond b (Some x) (find (λ y. p (f y)) xs))
    by true rest = refl
    by false rest = rest
