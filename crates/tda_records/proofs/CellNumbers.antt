-- A cell is known by its values.
use Rattle.std.proofs.Common.{◌≡◌, ℕ, zero, suc, ◌+◌, ◌*◌, ◌/◌, ◌%◌, ◌<◌, List, [], ◌∷◌, length, get_or, refl, sym, ap, ◌∙◌, arith}
use Rattle.std.proofs.lemmas.List.{ext_get_or}
use native.Mathlib.Nat.{mod-eq_of_lt, mod-one, mul-zero, zero-mul}
use lib.Arith.{mod-mul}
use Rattle.tda_model.specs.Schema.{Attribute}
use Rattle.tda_model.specs.Cells.{cells_in, values_in}

-- the number of values, the last attribute fastest
number : List Attribute → List ℕ → ℕ
number [] vs = 0
number (a ∷ rest) [] = 0
number (a ∷ rest) (v ∷ vs) = v * cells_in rest + number rest vs

factors : (n m : ℕ) → 0 < n * m → (0 < n) × (0 < m)
factors zero m some = absurd (omega (arith, some, zero-mul m))
factors (suc n) zero some = absurd (omega (arith, some, mul-zero (suc n)))
factors (suc n) (suc m) some = (omega arith, omega arith)

number-values : (attributes : List Attribute) (cell : ℕ) → 0 < cells_in attributes → number attributes (values_in attributes cell) ≡ cell % cells_in attributes
unfolding number
number-values [] cell some = sym (mod-one cell)
number-values (a ∷ rest) cell some =
    let both = factors (length a.values) (cells_in rest) some in
    ap (λ n. cell / cells_in rest % length a.values * cells_in rest + n) (number-values rest cell both.1)
    ∙ sym (mod-mul cell both.0 both.1)

pub length-values_in : (attributes : List Attribute) (cell : ℕ) → length (values_in attributes cell) ≡ length attributes
length-values_in [] cell = refl
length-values_in (a ∷ rest) cell = ap suc (length-values_in rest cell)

-- two cells of the same values are one
pub same_cell : (attributes : List Attribute) (i j : ℕ) → i < cells_in attributes → j < cells_in attributes
    → ((a : ℕ) → a < length attributes → get_or (values_in attributes i) a 0 ≡ get_or (values_in attributes j) a 0) → i ≡ j
same_cell attributes i j in_i in_j same =
    let sizes = length-values_in attributes in
    let values : values_in attributes i ≡ values_in attributes j =
    ext_get_or 0 _ _ (sizes i ∙ sym (sizes j)) (λ a below. same a (omega (arith, below, sizes i))) in
    sym (mod-eq_of_lt in_i) ∙ sym (number-values attributes i (omega arith))
    ∙ ap (number attributes) values
    ∙ number-values attributes j (omega arith) ∙ mod-eq_of_lt in_j
