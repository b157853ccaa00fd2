-- Ranges in parts, and lists made over them.
use Rattle.std.proofs.Common.{◌≡◌, ℕ, zero, suc, ◌+◌, ◌*◌, ◌/◌, ◌%◌, ◌<◌, ◌≤◌, List, ◌∷◌, ◌++◌, map, refl, sym, ap, subst, ◌∙◌, arith}
use Rattle.std.specs.List.{flat_map, range_with_len}
use Rattle.std.proofs.lemmas.List.{map-append}
use Rattle.std.proofs.lemmas.Nat.{div-mul-add, div-add-mod'}

pub range_split : (a m n : ℕ) → range_with_len a (m + n) ≡ range_with_len a m ++ range_with_len (a + m) n
range_split a zero n =
    let e : zero + n ≡ n = omega arith in
    let p : a + zero ≡ a = omega arith in
    ap (range_with_len a) e ∙ sym (ap (λ b. range_with_len b n) p)
range_split a (suc m) n =
    let e : suc m + n ≡ suc (m + n) = omega arith in
    let p : a + 1 + m ≡ a + suc m = omega arith in
    ap (range_with_len a) e
    ∙ ap (λ xs. a ∷ xs) (range_split (a + 1) m n ∙ ap (λ b. range_with_len (a + 1) m ++ range_with_len b n) p)

-- functions that agree, each over its own range
pub map_same : {B : Type 0} (f g : ℕ → B) (a b n : ℕ) → ((j : ℕ) → j < n → f (a + j) ≡ g (b + j))
    → map f (range_with_len a n) ≡ map g (range_with_len b n)
map_same f g a b zero h = refl
map_same f g a b (suc n) h =
    let first : f a ≡ g b = subst (λ i. f i ≡ g b) (let e : a + 0 ≡ a = omega arith in e)
    (subst (λ i. f (a + 0) ≡ g i) (let e : b + 0 ≡ b = omega arith in e) (h 0 (omega arith))) in
    let rest = map_same f g (a + 1) (b + 1) n (λ j l.
    subst (λ i. f (a + 1 + j) ≡ g i) (let e : b + suc j ≡ b + 1 + j = omega arith in e)
    (subst (λ i. f i ≡ g (b + suc j)) (let e : a + suc j ≡ a + 1 + j = omega arith in e) (h (suc j) (omega arith)))) in
    ap (λ x. x ∷ map f (range_with_len (a + 1) n)) first ∙ ap (λ xs. g b ∷ xs) rest

pub flat_same : {A : Type 0} (f g : ℕ → List A) (a n : ℕ) → ((j : ℕ) → a ≤ j → j < a + n → f j ≡ g j)
    → flat_map f (range_with_len a n) ≡ flat_map g (range_with_len a n)
flat_same f g a zero h = refl
flat_same f g a (suc n) h =
    ap (λ xs. xs ++ flat_map f (range_with_len (a + 1) n)) (h a (omega arith) (omega arith))
    ∙ ap (λ xs. g a ++ xs) (flat_same f g (a + 1) n (λ j lo hi. h j (omega arith) (omega arith)))

-- the numbers of rows of one width, one row after another
pub rows_of_width : {B : Type 0} (f : ℕ → ℕ → B) (width a n : ℕ)
    → flat_map (λ k. map (f k) (range_with_len 0 width)) (range_with_len a n)
    ≡ map (λ i. f (i / width) (i % width)) (range_with_len (a * width) (n * width))
rows_of_width f width a zero =
    let e : zero * width ≡ zero = omega arith in
    sym (ap (λ m. map (λ i. f (i / width) (i % width)) (range_with_len (a * width) m)) e)
rows_of_width f width a (suc n) =
    let h : ℕ → _ = λ (i : ℕ). f (i / width) (i % width) in
    let e : suc n * width ≡ width + n * width = omega arith in
    let next : a * width + width ≡ (a + 1) * width = omega arith in
    let own : map (f a) (range_with_len 0 width) ≡ map h (range_with_len (a * width) width) =
    map_same (f a) h 0 (a * width) width (λ j l.
    let row = div-mul-add a width j l in
    let column : (a * width + j) % width ≡ j = omega (arith, div-add-mod' (a * width + j) width, ap (λ x. x * width) row) in
    let first : 0 + j ≡ j = omega arith in
    ap (f a) (first ∙ sym column) ∙ ap (λ x. f x ((a * width + j) % width)) (sym row)) in
    ap (λ xs. xs ++ flat_map (λ k. map (f k) (range_with_len 0 width)) (range_with_len (a + 1) n)) own
    ∙ ap (λ xs. map h (range_with_len (a * width) width) ++ xs)
    (rows_of_width f width (a + 1) n ∙ ap (λ p. map h (range_with_len p (n * width))) (sym next))
    ∙ sym (map-append h (range_with_len (a * width) width) (range_with_len (a * width + width) (n * width)))
    ∙ sym (ap (map h) (range_split (a * width) width (n * width)))
    ∙ sym (ap (λ m. map h (range_with_len (a * width) m)) e)
