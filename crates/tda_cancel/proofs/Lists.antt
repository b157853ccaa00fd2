-- Lists without entries, and parts of lists.
use Rattle.std.proofs.Common.{◌≡◌, ℕ, suc, ◌+◌, ◌-◌, ◌<◌, ◌≤◌, List, ◌∷◌, length, get_or, set, take, drop, replicate, Option, Some, None, is_none, count_by, cond, refl, sym, ap, ◌∙◌, arith, length-set, get_or-set_same, drop-set-lt}
use Rattle.std.proofs.lemmas.List.{ext_get_or, get_or-replicate, length-replicate, drop_more, length-take, length-drop}
use Rattle.std.proofs.lemmas.List.Folds.{sum_by-replicate}
use Rattle.std.proofs.lemmas.List.Sums.{sum_by-set}
use Rattle.std.specs.List.{slice_range}

pub all_same : {X : Type 0} (xs : List X) (n : ℕ) (x : X) → length xs ≡ n → ((k : ℕ) → k < n → get_or xs k x ≡ x) → xs ≡ replicate n x
all_same {X} xs n x l h =
    ext_get_or x xs (replicate n x) (omega (arith, length-replicate {A = X} n x))
    (λ i k. h i (omega arith) ∙ sym (get_or-replicate n i x x (omega arith)))

-- how many entries are None: all at first, and one fewer for each that is written
pub count-replicate : (X : Type 0) (n : ℕ) → count_by {X = Option X} is_none (replicate n None) ≡ n
count-replicate X n = omega (arith, sum_by-replicate (λ (o : Option X). cond (is_none o) 1 0) n None)

pub count-set : {X : Type 0} (xs : List (Option X)) (v : ℕ) (x : X) → v < length xs → get_or xs v None ≡ None
    → count_by is_none (set xs v (Some x)) + 1 ≡ count_by is_none xs
count-set {X} xs v x l none =
    let a = sum_by-set (λ (o : Option X). cond (is_none o) 1 0) xs v (Some x) None l in
    let one : ℕ = 1 in
    let b : cond (is_none (get_or xs v None)) one 0 ≡ one = rw none refl in
    omega (arith, a, b)

-- one more in front of a part of a list
pub range_more : {X : Type 0} (xs : List X) (k j : ℕ) (x : X) → k < j → j ≤ length xs
    → slice_range (set xs k x) k j ≡ x ∷ slice_range xs (k + 1) j
range_more xs k j x l m =
    let i : k < length (set xs k x) = rw length-set (omega arith) in
    let first : get_or (set xs k x) k x ≡ x = get_or-set_same xs k x x (omega arith) in
    let rest : drop (k + 1) (set xs k x) ≡ drop (k + 1) xs = drop-set-lt (k + 1) xs k x (omega arith) in
    let size : j - k ≡ (j - (k + 1)) + 1 = omega arith in
    let all : drop k (set xs k x) ≡ x ∷ drop (k + 1) xs = drop_more (set xs k x) k x i ∙ ap (λ y. y ∷ drop (k + 1) (set xs k x)) first ∙ ap (λ ys. x ∷ ys) rest in
    ap (λ ys. take (j - k) ys) all ∙ ap (λ n. take n (x ∷ drop (k + 1) xs)) size ∙ front (j - (k + 1))
  where
    front : (n : ℕ) → take (n + 1) (x ∷ drop (k + 1) xs) ≡ x ∷ take n (drop (k + 1) xs)
    front n = let e : n + 1 ≡ suc n = omega arith in rw e refl

pub length-range : {X : Type 0} (xs : List X) (a b : ℕ) → b ≤ length xs → length (slice_range xs a b) ≡ b - a
length-range xs a b l = omega (arith, length-take (b - a) (drop a xs), length-drop a xs)
