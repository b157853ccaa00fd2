-- A loop over lists that are put together: it ends at the first element that passes.
use Rattle.std.proofs.Common.{◌≡◌, ℕ, ◌+◌, ◌<◌, ◌≤◌, Bool, true, false, cond, List, [], ◌∷◌, ◌++◌, length, get_or, filter, drop, Option, Some, None, refl, sym, ap, ◌∙◌, arith}
use Rattle.std.specs.Prelude.{find}
use Rattle.std.specs.List.{flat_map, range_with_len}
use Rattle.std.proofs.Math.ListN.{drop_of_length-le}
use Rattle.std.proofs.lemmas.List.{drop_more}
use Rattle.std.proofs.lemmas.List.FromFn.{length-range_with_len, get_or-range_with_len}

-- the first, or else the second
abbrev pub or_else : {Y : Type 0} → Option Y → Option Y → Option Y
or_else a b = elim a [ Some y ↦ Some y | None ↦ b ]

pub find_joined : {Y : Type 0} (p : Y → Bool) (xs ys : List Y) → find p (xs ++ ys) ≡ or_else (find p xs) (find p ys)
find_joined p [] ys = refl
find_joined {Y} p (x ∷ xs) ys = by (p x) (find_joined p xs ys)
  where
    by : (b : Bool) → find p (xs ++ ys) ≡ or_else (find p xs) (find p ys) → cond b (Some x) (find p (xs ++ ys)) ≡ or_else (cond b (Some x) (find p xs)) (find p ys)
    by true rest = refl
    by false rest = rest

module _ {X Y : Type 0} (p : Y → Bool) (f : X → List Y) (xs : List X) where
  -- nothing before this place passes
  abbrev pub FailsInto : ℕ → Type 0
  FailsInto k = find p (flat_map f (drop k xs)) ≡ find p (flat_map f xs)

  module _ (k : ℕ) (before : FailsInto k) where
    step : (d : X) → k < length xs → or_else (find p (f (get_or xs k d))) (find p (flat_map f (drop (k + 1) xs))) ≡ find p (flat_map f xs)
    step d below =
        sym (find_joined p (f (get_or xs k d)) (flat_map f (drop (k + 1) xs))) ∙ sym (ap (λ zs. find p (flat_map f zs)) (drop_more xs k d below)) ∙ before

    pub none_here : (d : X) → k < length xs → find p (f (get_or xs k d)) ≡ None → FailsInto (k + 1)
    none_here d below none = sym (ap (λ o. or_else o (find p (flat_map f (drop (k + 1) xs)))) none) ∙ step d below

    pub found_here : (d : X) → k < length xs → (y : Y) → find p (f (get_or xs k d)) ≡ Some y → Some y ≡ find p (flat_map f xs)
    found_here d below y found = sym (ap (λ o. or_else o (find p (flat_map f (drop (k + 1) xs)))) found) ∙ step d below

    pub none_at_all : length xs ≤ k → None ≡ find p (flat_map f xs)
    none_at_all all = sym (ap (λ zs. find p (flat_map f zs)) (drop_of_length-le xs all)) ∙ before

-- the same over numbers
module _ {Y : Type 0} (p : Y → Bool) (f : ℕ → List Y) (n k : ℕ) (before : FailsInto p f (range_with_len 0 n) k) where
  number : k < n → get_or (range_with_len 0 n) k 0 ≡ k
  number below = get_or-range_with_len 0 n k 0 below ∙ omega arith

  pub number_none : k < n → find p (f k) ≡ None → FailsInto p f (range_with_len 0 n) (k + 1)
  number_none below none =
      none_here p f (range_with_len 0 n) k before 0 (omega (arith, length-range_with_len 0 n)) (ap (λ m. find p (f m)) (number below) ∙ none)

  pub number_found : k < n → (y : Y) → find p (f k) ≡ Some y → Some y ≡ find p (flat_map f (range_with_len 0 n))
  number_found below y found =
      found_here p f (range_with_len 0 n) k before 0 (omega (arith, length-range_with_len 0 n)) y (ap (λ m. find p (f m)) (number below) ∙ found)

  pub no_number : n ≤ k → None ≡ find p (flat_map f (range_with_len 0 n))
  no_number all = none_at_all p f (range_with_len 0 n) k before (omega (arith, length-range_with_len 0 n))

-- those that a test lets through
pub filtered : {X Y : Type 0} (q : X → Bool) (f : X → List Y) (xs : List X) → flat_map f (filter q xs) ≡ flat_map (λ x. cond (q x) (f x) []) xs
filtered q f [] = refl
filtered {X} {Y} q f (x ∷ xs) = by (q x) (filtered q f xs)
  where
    by : (b : Bool) → flat_map f (filter q xs) ≡ flat_map (λ x. cond (q x) (f x) []) xs
        → flat_map f (cond b (x ∷ filter q xs) (filter q xs)) ≡ cond b (f x) [] ++ flat_map (λ x. cond (q x) (f x) []) xs
    by true rest = ap (λ zs. f x ++ zs) rest
    by false rest = rest
