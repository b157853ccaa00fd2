-- One more number of a range.
use Rattle.std.proofs.Common.{◌≡◌, ℕ, suc, ◌+◌, List, [], ◌∷◌, ◌++◌, map, sum_by, ap, sym, ◌∙◌, arith}
use Rattle.std.proofs.lemmas.List.FromFn.{map-range_with_len_more}
use Rattle.std.specs.List.{range_with_len}
use Rattle.tda_model.proofs.Shares.{sum_range_more}

pub sum_more : (f : ℕ → ℕ) (n sum term : ℕ) → sum ≡ sum_by f (range_with_len 0 n) → term ≡ f n → sum + term ≡ sum_by f (range_with_len 0 (n + 1))
sum_more f n sum term sum_is term_is =
    let next : n + 1 ≡ suc n = omega arith in
    let more = ap (λ m. sum_by f (range_with_len 0 m)) next ∙ sum_range_more f n in
    omega (arith, more, sum_is, term_is)

pub map_more : {X : Type 0} (f : ℕ → X) (n : ℕ) (xs : List X) (x : X) → xs ≡ map f (range_with_len 0 n) → x ≡ f n → xs ++ x ∷ [] ≡ map f (range_with_len 0 (n + 1))
map_more f n xs x xs_are x_is =
    let from_zero : 0 + n ≡ n = omega arith in
    ap (λ ys. ys ++ x ∷ []) xs_are ∙ ap (λ y. map f (range_with_len 0 n) ++ y ∷ []) x_is ∙ sym (map-range_with_len_more f 0 n n from_zero)
