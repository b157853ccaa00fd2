-- Counts of values.
use Rattle.std.proofs.Common.{◌≡◌, ◌∷◌, [], List, Bool, map, count_by, fold, refl}

-- a fold of values
fold-map : {X A : Type 0} (g : A → X → A) → {Y : Type 0} (h : Y → X) (a : A) (ys : List Y) → fold g a (map h ys) ≡ fold (λ b y. g b (h y)) a ys
fold-map g h a [] = refl
fold-map g h a (y ∷ ys) = fold-map g h (g a (h y)) ys

-- how many values pass
pub count_by-map : {X : Type 0} (p : X → Bool) → {Y : Type 0} (h : Y → X) (ys : List Y) → count_by p (map h ys) ≡ count_by (λ y. p (h y)) ys
count_by-map p h ys = fold-map _ h 0 ys
