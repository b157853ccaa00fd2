-- One more in a row, and one more row.
use Rattle.std.proofs.Common.{◌≡◌, ℕ, suc, ◌+◌, ◌*◌, ◌<◌, ◌≤◌, List, [], ◌∷◌, ◌++◌, sym, ap, ◌∙◌, arith, suc-mul}
use Rattle.std.specs.List.{range_with_len, flat_map}
use Rattle.std.proofs.Math.Nat.{mul-le-mul_right}
use Rattle.std.proofs.lemmas.List.{append_assoc}
use Rattle.std.proofs.lemmas.List.Concat.{flat_map-append}
use Rattle.std.proofs.lemmas.List.{append-nil, map-id}
use Rattle.std.proofs.lemmas.List.FromFn.{map-range_with_len_more}
use Rattle.tda_fitnet.specs.Layout.{row, rows}

pub row_more : {A : Type 0} (before xs : List A) (k : ℕ) (f : ℕ → A) → xs ≡ before ++ row k f → xs ++ f k ∷ [] ≡ before ++ row (k + 1) f
row_more before xs k f e =
    let zero_plus : 0 + k ≡ k = omega arith in
    ap (λ ys. ys ++ f k ∷ []) e ∙ append_assoc before (row k f) (f k ∷ []) ∙ ap (λ ys. before ++ ys) (sym (map-range_with_len_more f 0 k k zero_plus))

-- the rows of one unit more
pub rows_more : {A : Type 0} (before xs : List A) (m n : ℕ) (f : ℕ → ℕ → A) → xs ≡ before ++ rows m n f → xs ++ row n (f m) ≡ before ++ rows (m + 1) n f
rows_more {A} before xs m n f e =
    let g : ℕ → List A = λ i. row n (f i) in
    let zero_plus : 0 + m ≡ m = omega arith in
    let range : range_with_len 0 (m + 1) ≡ range_with_len 0 m ++ m ∷ [] =
    sym (map-id (range_with_len 0 (m + 1))) ∙ map-range_with_len_more (λ i. i) 0 m m zero_plus ∙ ap (λ ys. ys ++ m ∷ []) (map-id (range_with_len 0 m)) in
    ap (λ ys. ys ++ row n (f m)) e ∙ append_assoc before (rows m n f) (row n (f m))
    ∙ ap (λ ys. before ++ ys)
    (ap (λ ys. rows m n f ++ ys) (sym (append-nil (row n (f m)))) ∙ sym (flat_map-append g (range_with_len 0 m) (m ∷ [])) ∙ ap (flat_map g) (sym range))

-- room for one row more, and how many there are then
pub rows_room : (u m n a b : ℕ) → u < m → a + m * n ≤ b → a + u * n + n ≤ b
rows_room u m n a b l h =
    let next : suc u ≤ m = omega arith in
    omega (arith, suc-mul u n, mul-le-mul_right n next, h)

pub rows_count : (u n a b c : ℕ) → b ≡ a + u * n → c ≡ n → b + c ≡ a + (u + 1) * n
rows_count u n a b c e d =
    let more : u + 1 ≡ suc u = omega arith in
    omega (arith, suc-mul u n, ap (λ v. v * n) more)
