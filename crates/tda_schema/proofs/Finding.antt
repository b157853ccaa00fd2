-- Where the first element stands that passes a test.
use Rattle.std.proofs.Common.{◌≡◌, ℕ, suc, ◌||◌, ◌+◌, ◌<◌, Bool, true, false, not, cond, List, [], ◌∷◌, length, get_or, map, slice_get, find, position, Option, Some, None, is_some, refl, sym, ap, ◌∙◌, arith}
use Rattle.std.specs.List.{list_all, list_any, position_or_len}
use Rattle.std.proofs.lemmas.Bool.{lt-ltb, le-ltb}
use Rattle.std.proofs.lemmas.List.Folds.{list_all-map}
use Rattle.tda_schema.proofs.Positions.{position-map}
use Rattle.std.proofs.lemmas.List.Sums.{AllPass-from_list_all}

module _ {X : Type 0} (p : X → Bool) where
  pub within : (xs : List X) → list_any p xs ≡ true → position_or_len p xs < length xs
  within [] h = cc
  within (x ∷ xs) h = by (p x) refl h (within xs)
    where
      by : (b : Bool) → p x ≡ b → (b || list_any p xs) ≡ true → (list_any p xs ≡ true → position_or_len p xs < length xs)
          → cond (not b) (1 + position_or_len p xs) 0 < length (x ∷ xs)
      by true is some rest = omega arith
      by false is some rest = let below = rest some in omega arith

  -- an element passes, so there is a first one
  pub placed : (xs : List X) → list_any p xs ≡ true → position p xs ≡ Some (position_or_len p xs)
  placed xs h = ap (λ b. cond b (Some (position_or_len p xs)) None) (lt-ltb (position_or_len p xs) (length xs) (within xs h))

  none_passes : (xs : List X) → list_any p xs ≡ false → position_or_len p xs ≡ length xs
  none_passes [] h = refl
  none_passes (x ∷ xs) h = by (p x) refl h (none_passes xs)
    where
      by : (b : Bool) → p x ≡ b → (b || list_any p xs) ≡ false → (list_any p xs ≡ false → position_or_len p xs ≡ length xs)
          → cond (not b) (1 + position_or_len p xs) 0 ≡ length (x ∷ xs)
      by true is none rest = cc
      by false is none rest = let all = rest none in omega arith

  unplaced : (xs : List X) → list_any p xs ≡ false → position p xs ≡ None
  unplaced xs h = ap (λ b. cond b (Some (position_or_len p xs)) None) (le-ltb (position_or_len p xs) (length xs) (let all = none_passes xs h in omega arith))

  -- whether there is one is whether one passes
  pub position-list_any : (xs : List X) → is_some (position p xs) ≡ list_any p xs
  position-list_any xs = by (list_any p xs) refl
    where
      by : (b : Bool) → list_any p xs ≡ b → is_some (position p xs) ≡ b
      by true h = ap is_some (placed xs h)
      by false h = ap is_some (unplaced xs h)

  pub first_place : (xs : List X) (k : ℕ) → position p xs ≡ Some k → k ≡ position_or_len p xs
  first_place xs k h =
      let some : list_any p xs ≡ true = sym (position-list_any xs) ∙ ap is_some h in
      let same : Some k ≡ Some (position_or_len p xs) = sym h ∙ placed xs some in
      cc

  -- the first one that passes is where it is found
  pub found_there : (xs : List X) (x : X) → find p xs ≡ Some x → (list_any p xs ≡ true) × (slice_get xs (position_or_len p xs) ≡ Some x)
  found_there [] x h = cc
  found_there (y ∷ ys) x h = by (p y) refl h (found_there ys x)
    where
      by : (b : Bool) → p y ≡ b → cond b (Some y) (find p ys) ≡ Some x
          → (find p ys ≡ Some x → (list_any p ys ≡ true) × (slice_get ys (position_or_len p ys) ≡ Some x))
          → ((b || list_any p ys) ≡ true) × (slice_get (y ∷ ys) (cond (not b) (1 + position_or_len p ys) 0) ≡ Some x)
      by true is here rest = (refl, here)
      by false is here rest =
          let there = rest here in
          let next : 1 + position_or_len p ys ≡ suc (position_or_len p ys) = omega arith in
          (there.0, ap (slice_get (y ∷ ys)) next ∙ there.1)

  -- one passes, so one is found
  pub one_found : (xs : List X) → list_any p xs ≡ true → (x : X) × (find p xs ≡ Some x)
  one_found [] h = cc
  one_found (y ∷ ys) h = by (p y) refl h (one_found ys)
    where
      by : (b : Bool) → p y ≡ b → (b || list_any p ys) ≡ true → (list_any p ys ≡ true → (x : X) × (find p ys ≡ Some x)) → (x : X) × (cond b (Some y) (find p ys) ≡ Some x)
      by true is some rest = (y, refl)
      by false is some rest = rest some

-- the place among images, where one passes
pub numbered : {X Y : Type 0} (p : X → Bool) (f : Y → X) (ys : List Y) (o : Option ℕ) → o ≡ position (λ y. p (f y)) ys → list_any p (map f ys) ≡ true
    → o ≡ Some (position_or_len p (map f ys))
numbered p f ys o is some = is ∙ sym (position-map p f ys) ∙ placed p (map f ys) some

-- what passes a test of images, at each place
pub passes_at : {X Y : Type 0} (p : X → Bool) (f : Y → X) (ys : List Y) (i : ℕ) (d : Y) → list_all p (map f ys) ≡ true → i < length ys → p (f (get_or ys i d)) ≡ true
passes_at p f ys i d h below = AllPass-from_list_all (λ y. p (f y)) ys (sym (list_all-map p f ys) ∙ h) i d below
