-- Elements of lists that are filtered, mapped and joined.
use Rattle.std.proofs.Common.{◌≡◌, ℕ, zero, suc, ◌+◌, ◌<◌, ◌≤◌, Bool, true, false, cond, List, [], ◌∷◌, ◌++◌, length, get_or, map, filter, All, Contains, refl, sym, ap, ◌∙◌, subst, arith, ◌⊎◌, inl, inr}
use Rattle.std.specs.List.{range_with_len, flat_map}
use Rattle.std.proofs.lemmas.List.Elements.{All-contains, All-filter, filter_passes, Contains-append_left, Contains-append_right, Contains-append_cases, Contains-get_or, All-contains_itself}
use Rattle.std.proofs.lemmas.List.FromFn.{length-range_with_len, get_or-range_with_len}

pub Contains-here : {X : Type 0} (x : X) (xs : List X) → Contains (x ∷ xs) x
Contains-here x xs = (0, omega arith, refl)

pub Contains-later : {X : Type 0} (y : X) (xs : List X) (x : X) → Contains xs x → Contains (y ∷ xs) x
Contains-later y xs x found = (suc found.0, omega (arith, found.1), found.2)

pub Contains-cases : {X : Type 0} (y : X) (xs : List X) (x : X) → Contains (y ∷ xs) x → (y ≡ x) ⊎ Contains xs x
Contains-cases y xs x found = by found.0 found.1 found.2
  where
    by : (k : ℕ) → k < length (y ∷ xs) → get_or (y ∷ xs) k x ≡ x → (y ≡ x) ⊎ Contains xs x
    by zero below is = inl is
    by (suc k) below is = inr (k, omega arith, is)

-- ---- filters

module _ {X : Type 0} (p : X → Bool) where
  pub Contains-filter : (xs : List X) (x : X) → Contains xs x → p x ≡ true → Contains (filter p xs) x
  Contains-filter [] x found passes = absurd (omega (arith, found.1))
  Contains-filter (y ∷ ys) x found passes =
      elim (Contains-cases y ys x found) [
        | inl here ↦ rw (ap p here ∙ passes) (subst (λ z. Contains (y ∷ filter p ys) z) here (Contains-here y (filter p ys)))
        | inr later ↦ kept (p y) (Contains-filter ys x later passes)
      ]
    where
      kept : (b : Bool) → Contains (filter p ys) x → Contains (cond b (y ∷ filter p ys) (filter p ys)) x
      kept true h = Contains-later y (filter p ys) x h
      kept false h = h

  pub Contains-unfiltered : (xs : List X) (x : X) → Contains (filter p xs) x → Contains xs x
  Contains-unfiltered xs x found = All-contains (Contains xs) (filter p xs) x (All-filter p (Contains xs) xs (All-contains_itself xs)) found

  pub filter_holds : (xs : List X) (x : X) → Contains (filter p xs) x → p x ≡ true
  filter_holds xs x found = All-contains (λ y. p y ≡ true) (filter p xs) x (filter_passes p xs) found

-- ---- numbers below a count

pub Contains-range : (n i : ℕ) → i < n → Contains (range_with_len 0 n) i
Contains-range n i below = (i, omega (arith, length-range_with_len 0 n), get_or-range_with_len 0 n i i below ∙ (omega arith))

range_below : (n : ℕ) → All (λ i. i < n) (range_with_len 0 n)
range_below n k d below =
    let near : k < n = omega (arith, length-range_with_len 0 n) in
    let is : get_or (range_with_len 0 n) k d ≡ 0 + k = get_or-range_with_len 0 n k d near in
    omega arith

module _ (p : ℕ → Bool) (n : ℕ) where
  abbrev pub passing : List ℕ
  passing = filter p (range_with_len 0 n)

  pub Contains-passing : (i : ℕ) → i < n → p i ≡ true → Contains passing i
  Contains-passing i below passes = Contains-filter p (range_with_len 0 n) i (Contains-range n i below) passes

  pub passing_holds : (i : ℕ) → Contains passing i → p i ≡ true
  passing_holds i found = filter_holds p (range_with_len 0 n) i found

  pub passing_below : (i : ℕ) → Contains passing i → i < n
  passing_below i found = All-contains (λ j. j < n) passing i (All-filter p (λ j. j < n) (range_with_len 0 n) (range_below n)) found

-- what holds of each element, by the elements
pub All-from_Contains : {X : Type 0} (P : X → Type 0) (xs : List X) → ((x : X) → Contains xs x → P x) → All P xs
All-from_Contains P xs each k d below = each (get_or xs k d) (Contains-get_or xs k d below)

-- ---- images

module _ {X Y : Type 0} (f : X → Y) where
  pub Contains-map : (xs : List X) (x : X) → Contains xs x → Contains (map f xs) (f x)
  Contains-map [] x found = absurd (omega (arith, found.1))
  Contains-map (y ∷ ys) x found =
      elim (Contains-cases y ys x found) [
        | inl here ↦ subst (λ z. Contains (f y ∷ map f ys) (f z)) here (Contains-here (f y) (map f ys))
        | inr later ↦ Contains-later (f y) (map f ys) (f x) (Contains-map ys x later)
      ]

  pub map_source : (xs : List X) (y : Y) → Contains (map f xs) y → (x : X) × Contains xs x × (f x ≡ y)
  map_source [] y found = absurd (omega (arith, found.1))
  map_source (x ∷ xs) y found =
      elim (Contains-cases (f x) (map f xs) y found) [
        | inl here ↦ (x, Contains-here x xs, here)
        | inr later ↦ let s = map_source xs y later in (s.0, Contains-later x xs s.0 s.1, s.2)
      ]

module _ {X Y : Type 0} (f : X → List Y) where
  pub Contains-flat_map : (xs : List X) (x : X) (y : Y) → Contains xs x → Contains (f x) y → Contains (flat_map f xs) y
  Contains-flat_map [] x y found among = absurd (omega (arith, found.1))
  Contains-flat_map (z ∷ zs) x y found among =
      elim (Contains-cases z zs x found) [
        | inl here ↦ Contains-append_left (f z) (flat_map f zs) y (subst (λ w. Contains (f w) y) (sym here) among)
        | inr later ↦ Contains-append_right (f z) (flat_map f zs) y (Contains-flat_map zs x y later among)
      ]

  pub flat_map_source : (xs : List X) (y : Y) → Contains (flat_map f xs) y → (x : X) × Contains xs x × Contains (f x) y
  flat_map_source [] y found = absurd (omega (arith, found.1))
  flat_map_source (x ∷ xs) y found =
      elim (Contains-append_cases (f x) (flat_map f xs) y found) [
        | inl here ↦ (x, Contains-here x xs, here)
        | inr later ↦ let s = flat_map_source xs y later in (s.0, Contains-later x xs s.0 s.1, s.2)
      ]
