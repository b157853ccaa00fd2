-- The cells of a kind stand side by side, since the kind is the first attribute.
use Rattle.std.proofs.Common.{◌≡◌, ℕ, zero, suc, ◌+◌, ◌-◌, ◌*◌, ◌/◌, ◌<◌, ◌≤◌, cond, ◌==◌, List, [], ◌∷◌, length, All, sym, ap, ◌∙◌, arith, ne_eqb, eq-eqb, sum_by}
use Rattle.std.proofs.Math.Nat.{mul-div_cancel_left, div-lt_iff_lt-mul, mul-le-mul_right}
use Rattle.std.proofs.lemmas.List.Sums.{sum_by-cons}
use Rattle.std.proofs.lemmas.Nat.{div-mul-add}
use Rattle.std.specs.List.{range_with_len}
use Rattle.tda_model.specs.Schema.{Attribute, Schema}
use Rattle.tda_model.specs.Cells.{cells_in, cell_count, kind_of, all_cells}
use Rattle.tda_model.specs.Groups.{kind_count}
use Rattle.tda_model.specs.Tables.{Table, kind_sum}
use Rattle.tda_model.proofs.Sums.{sum_filter, sum_same, sum_zero, each_range}
use Rattle.tda_schema.specs.Readers.{IsWithinLimits}
use Rattle.tda_schema.proofs.WholeLemmas.{kind_is}

-- a sum over numbers in two parts
pub sum_parts : (f : ℕ → ℕ) (a m n : ℕ) → sum_by f (range_with_len a (m + n)) ≡ sum_by f (range_with_len a m) + sum_by f (range_with_len (a + m) n)
sum_parts f a zero n =
    ap (λ k. sum_by f (range_with_len a k)) (let e : 0 + n ≡ n = omega arith in e)
    ∙ ap (λ b. sum_by f (range_with_len b n)) (let e : a ≡ a + 0 = omega arith in e) ∙ omega arith
sum_parts f a (suc m) n =
    ap (λ k. sum_by f (range_with_len a k)) (let e : suc m + n ≡ suc (m + n) = omega arith in e)
    ∙ sum_by-cons f a (range_with_len (a + 1) (m + n))
    ∙ ap (λ k. f a + k) (sum_parts f (a + 1) m n)
    ∙ ap (λ b. f a + (sum_by f (range_with_len (a + 1) m) + sum_by f (range_with_len b n))) (let e : a + 1 + m ≡ a + suc m = omega arith in e)
    ∙ omega (arith, sum_by-cons f a (range_with_len (a + 1) m))

-- one number more
pub sum_one_more : (f : ℕ → ℕ) (a n : ℕ) → sum_by f (range_with_len a (n + 1)) ≡ sum_by f (range_with_len a n) + f (a + n)
sum_one_more f a n = sum_parts f a n 1 ∙ omega arith

-- a sum to which the next number's term is added
pub more_from : (f : ℕ → ℕ) (a n next j sum term : ℕ) → next ≡ n + 1 → a + n ≡ j → sum ≡ sum_by f (range_with_len a n) → term ≡ f j → sum + term ≡ sum_by f (range_with_len a next)
more_from f a n next j sum term next_is j_is is term_is =
    let same : f (a + n) ≡ f j = ap f j_is in
    let more = sum_one_more f a n in
    let whole = ap (λ k. sum_by f (range_with_len a k)) next_is in
    omega (arith, same, more, whole, is, term_is)

product : (attributes : List Attribute) → 1 ≤ length attributes → All (λ a. 1 ≤ length a.values) attributes
    → let n : ℕ = elim attributes as (λ _. ℕ) [ a ∷ rest ↦ length a.values | [] ↦ 0 ] in cells_in attributes ≡ n * (cells_in attributes / n)
product [] some values = absurd (omega arith)
product (a ∷ rest) some values =
    let some_value : 1 ≤ length a.values = values 0 a (omega arith) in
    ap (λ k. length a.values * k) (sym (mul-div_cancel_left (cells_in rest) some_value))

some_value_first : (attributes : List Attribute) → 1 ≤ length attributes → All (λ a. 1 ≤ length a.values) attributes
    → 1 ≤ elim attributes as (λ _. ℕ) [ a ∷ rest ↦ length a.values | [] ↦ 0 ]
some_value_first [] some values = absurd (omega arith)
some_value_first (a ∷ rest) some values = values 0 a (omega arith)

module _ (s : Schema) (limits : IsWithinLimits s) where
  -- there is a kind
  pub some_kind : 1 ≤ kind_count s
  some_kind = some_value_first s.attributes limits.some_attribute limits.some_value

  abbrev pub per_kind : ℕ
  per_kind = cell_count s / kind_count s

  pub cells_are : cell_count s ≡ kind_count s * per_kind
  cells_are = product s.attributes limits.some_attribute limits.some_value

  per_kind_some : 1 ≤ per_kind
  per_kind_some = by per_kind cells_are
    where
      by : (n : ℕ) → cell_count s ≡ kind_count s * n → 1 ≤ n
      by zero e = let none : cell_count s ≡ 0 = e ∙ omega arith in absurd (omega (arith, none, limits.some_cell))
      by (suc n) e = omega arith

  -- the cells of a kind are within the cells
  pub kind_within : (k : ℕ) → k < kind_count s → k * per_kind + per_kind ≤ cell_count s
  kind_within k l =
      let le = mul-le-mul_right per_kind (let e : k + 1 ≤ kind_count s = omega arith in e) in
      omega (arith, le, cells_are)

  kind_there : (j : ℕ) → j < cell_count s → kind_of s j ≡ j / per_kind
  kind_there j l = sym (kind_is s j limits.some_attribute limits.some_value l).is

  module _ (x : Table) (k : ℕ) (below : k < kind_count s) where
    abbrev term : ℕ → ℕ
    term j = cond (kind_of s j == k) (x j) 0

    before : (j : ℕ) → j < k * per_kind → term j ≡ 0
    before j l =
        let within = kind_within k below in
        let less : j / per_kind < k = (div-lt_iff_lt-mul per_kind_some).1 l in
        let kind = kind_there j (omega arith) in
        ap (λ b. cond b (x j) 0) (ne_eqb (kind_of s j) k (λ e. omega arith))

    within : (j : ℕ) → k * per_kind ≤ j → j < k * per_kind + per_kind → term j ≡ x j
    within j low high =
        let fits = kind_within k below in
        let at : j ≡ k * per_kind + (j - k * per_kind) = omega arith in
        let kind : kind_of s j ≡ k = kind_there j (omega arith) ∙ ap (λ n. n / per_kind) at ∙ div-mul-add k per_kind (j - k * per_kind) (omega arith) in
        ap (λ b. cond b (x j) 0) (eq-eqb (kind_of s j) k kind)

    after : (j : ℕ) → k * per_kind + per_kind ≤ j → j < cell_count s → term j ≡ 0
    after j low high =
        ap (λ b. cond b (x j) 0) (ne_eqb (kind_of s j) k (λ e.
        let kind = kind_there j high in
        let less : j < (k + 1) * per_kind = (div-lt_iff_lt-mul per_kind_some).0 (let l : j / per_kind < k + 1 = omega arith in l) in
        omega arith))

    pub kind_cells_are : sum_by x (range_with_len (k * per_kind) per_kind) ≡ kind_sum s k x
    kind_cells_are =
        let first = k * per_kind in
        let rest = cell_count s - (first + per_kind) in
        let fits = kind_within k below in
        let size : cell_count s ≡ first + (per_kind + rest) = omega arith in
        let whole = sum_filter x (λ j. kind_of s j == k) (all_cells s) ∙ ap (λ n. sum_by term (range_with_len 0 n)) size in
        let parts = sum_parts term 0 first (per_kind + rest) in
        let parts_after = sum_parts term (0 + first) per_kind rest in
        let none_before : sum_by term (range_with_len 0 first) ≡ 0 =
        sum_same term (λ j. 0) (range_with_len 0 first) (each_range (λ j. term j ≡ 0) 0 first (λ j low high. before j (omega arith))) ∙ sum_zero (range_with_len 0 first) in
        let own : sum_by term (range_with_len (0 + first) per_kind) ≡ sum_by x (range_with_len first per_kind) =
        sum_same term x (range_with_len (0 + first) per_kind) (each_range (λ j. term j ≡ x j) (0 + first) per_kind (λ j low high. within j (omega arith) (omega arith)))
        ∙ ap (λ a. sum_by x (range_with_len a per_kind)) (let e : 0 + first ≡ first = omega arith in e) in
        let none_after : sum_by term (range_with_len (0 + first + per_kind) rest) ≡ 0 =
        sum_same term (λ j. 0) (range_with_len (0 + first + per_kind) rest) (each_range (λ j. term j ≡ 0) (0 + first + per_kind) rest (λ j low high. after j (omega arith) (omega arith)))
        ∙ sum_zero (range_with_len (0 + first + per_kind) rest) in
        omega (arith, whole, parts, parts_after, none_before, own, none_after)

  pub kind_sum_by : (x : Table) (k : ℕ) → k < kind_count s → (first per n total : ℕ) → first ≡ k * per → per ≡ per_kind → n ≡ per → total ≡ sum_by x (range_with_len first n) → total ≡ kind_sum s k x
  kind_sum_by x k below first per n total first_is per_is n_is is =
      is ∙ ap (λ m. sum_by x (range_with_len first m)) (n_is ∙ per_is) ∙ ap (λ a. sum_by x (range_with_len a per_kind)) (first_is ∙ ap (λ m. k * m) per_is) ∙ kind_cells_are x k below
