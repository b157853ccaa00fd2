-- Lists that are put together: what holds of each element, and maps over them.
use Rattle.std.proofs.Common.{◌≡◌, List, [], ◌∷◌, ◌++◌, map, refl, ap, ◌∙◌}
use Rattle.std.proofs.lemmas.List.{map-append}
use Rattle.std.specs.List.{flat_map}
use Rattle.tda_model.proofs.Sums.{Each}

-- ---- what holds of each element

pub each_append : {X : Type 0} (P : X → Type 0) (xs ys : List X) → Each P xs → Each P ys → Each P (xs ++ ys)
each_append P [] ys h k = k
each_append P (x ∷ xs) ys (here, later) k = (here, each_append P xs ys later k)

pub each_flat : {X A : Type 0} (P : A → Type 0) (f : X → List A) (xs : List X) → Each (λ x. Each P (f x)) xs → Each P (flat_map f xs)
each_flat P f [] h = tt
each_flat P f (x ∷ xs) (here, later) = each_append P (f x) (flat_map f xs) here (each_flat P f xs later)

pub each_map : {X A : Type 0} (P : A → Type 0) (f : X → A) (xs : List X) → Each (λ x. P (f x)) xs → Each P (map f xs)
each_map P f [] h = tt
each_map P f (x ∷ xs) (here, later) = (here, each_map P f xs later)

-- ---- maps

pub map_same : {X A : Type 0} (f g : X → A) (xs : List X) → Each (λ x. f x ≡ g x) xs → map f xs ≡ map g xs
map_same f g [] h = refl
map_same f g (x ∷ xs) (here, later) = ap (λ y. y ∷ map f xs) here ∙ ap (λ ys. g x ∷ ys) (map_same f g xs later)

pub map_twice : {X A B : Type 0} (g : A → B) (f : X → A) (xs : List X) → map g (map f xs) ≡ map (λ x. g (f x)) xs
map_twice g f [] = refl
map_twice g f (x ∷ xs) = ap (λ ys. g (f x) ∷ ys) (map_twice g f xs)

pub map_flat : {X A B : Type 0} (g : A → B) (f : X → List A) (h : X → List B) (xs : List X) → Each (λ x. map g (f x) ≡ h x) xs → map g (flat_map f xs) ≡ flat_map h xs
map_flat g f h [] e = refl
map_flat g f h (x ∷ xs) (here, later) = map-append g (f x) (flat_map f xs) ∙ ap (λ ys. ys ++ map g (flat_map f xs)) here ∙ ap (λ ys. h x ++ ys) (map_flat g f h xs later)
