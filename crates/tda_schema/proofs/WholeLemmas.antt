-- What holds of a schema that is whole.
use Rattle.std.proofs.Common.{◌≡◌, ℕ, suc, ◌<◌, ◌≤◌, ◌*◌, ◌/◌, Bool, true, List, [], ◌∷◌, length, map, get_or, Option, Some, None, cond, sym, ap, subst, ◌∙◌, arith}
use Rattle.std.specs.List.{All, filter, sum_by}
use Rattle.std.proofs.Math.Nat.{mul-div_cancel_left, div-lt_iff_lt-mul, mod-eq_of_lt}
use Rattle.std.proofs.lemmas.Bool.{and_parts, leb-true, ltb-true}
use Rattle.std.proofs.lemmas.List.FromFn.{get_or-map-range_with_len, length-map-range_with_len, length-range_with_len}
use Rattle.std.proofs.lemmas.List.Sums.{length-filter, count_by-le-length}
use Rattle.std.proofs.lemmas.Nat.{mul-le}
use Rattle.std.proofs.lemmas.Nat.Gcd.{le_of_dvd}
use Rattle.tda_frac.specs.Fraction as frac
use Rattle.tda_model.specs.Schema.{Fraction, Attribute, Recode, Listed, Query, Level, Schema}
use Rattle.tda_model.specs.Cells.{cells_in, cell_count, is_possible, is_listed, kind_of, all_cells, possible_cells}
use Rattle.tda_model.specs.Deviation.{weight_of}
use Rattle.tda_model.specs.Groups.{is_class, classes_of, scope_cells, kind_count}
use Rattle.tda_schema.specs.Kept.{IsQueryKept}
use Rattle.tda_schema.specs.Parts.{Parts, class_at}
use Rattle.tda_schema.specs.Shares.{IsLeastCommon, queries_of, common_of, spent_of, denominator_limit}
use Rattle.tda_schema.specs.Stated.{queries_at, query_at, class_of}
use Rattle.tda_schema.specs.Whole.{IsWhole}
use Rattle.tda_schema.proofs.Commons.{least_common}
use Rattle.tda_schema.proofs.Spent.{have_denominators, some_common, levels_divide, spent_parts}

module _ (s : Schema) (m : ℕ) (f : frac.Fraction) (p : Parts) (values : List (List (List ℕ))) (whole : IsWhole s m f p values) where
  small_denominators : (s.total.den ≤ denominator_limit) × (common_of s ≤ denominator_limit)
  small_denominators =
      let tests = and_parts _ _ whole.denominators in
      (leb-true s.total.den denominator_limit tests.0, leb-true (common_of s) denominator_limit tests.1)

  pub query_kept : (level query : ℕ) → level < length s.levels → query < length (queries_at s level) → IsQueryKept s (query_at s level query)
  query_kept level query below inside =
      let divides = levels_divide s whole.paid.levels level _ below query _ inside in
      let least = le_of_dvd (some_common s whole.paid.levels) divides in
      record {
        named = (whole.looked_up.levels level _ below).named query _ inside;
        share = whole.paid.levels level _ below query _ inside;
        small = omega (arith, least, small_denominators.1);
        parts = divides;
      }

  pub whole_common : IsLeastCommon (queries_of s) m × (1 ≤ m) × (m ≤ denominator_limit)
  whole_common =
      let least = least_common (queries_of s) (have_denominators s whole.paid.levels) in
      let some = some_common s whole.paid.levels in
      (subst (IsLeastCommon (queries_of s)) (sym whole.common) least, omega (arith, some, whole.common), omega (arith, whole.common, small_denominators.1))

  pub whole_spent : f.num * common_of s ≡ sum_by (weight_of (common_of s)) (queries_of s) * f.den
  whole_spent =
      let parts = spent_parts s whole.paid.levels in
      let num : f.num ≡ (spent_of s).num = ap (λ (x : Fraction). x.num) whole.spent in
      let den : f.den ≡ (spent_of s).den = ap (λ (x : Fraction). x.den) whole.spent in
      rw (num, den) parts

-- the cells of a schema, of which each is possible or not
pub possible_at : (s : Schema) (cell : ℕ) (d : Bool) → cell < cell_count s → get_or (map (is_possible s) (all_cells s)) cell d ≡ is_possible s cell
possible_at s cell d below = get_or-map-range_with_len (is_possible s) 0 (cell_count s) cell cell d below (omega arith)

pub length-possible : (s : Schema) → length (map (is_possible s) (all_cells s)) ≡ cell_count s
length-possible s = length-map-range_with_len (is_possible s) 0 (cell_count s)

pub cell_of_possible : (s : Schema) (cell : ℕ) → is_possible s cell ≡ true → cell < cell_count s
cell_of_possible s cell h = ltb-true cell (cell_count s) (and_parts _ _ h).0

pub length-classed : (s : Schema) (q : Query) → length (map (class_at s q) (all_cells s)) ≡ cell_count s
length-classed s q = length-map-range_with_len (class_at s q) 0 (cell_count s)

pub class_found : (s : Schema) (q : Query) (cell : ℕ) (d : Option ℕ) → is_possible s cell ≡ true → get_or (map (class_at s q) (all_cells s)) cell d ≡ Some (class_of s q cell)
class_found s q cell d h =
    get_or-map-range_with_len (class_at s q) 0 (cell_count s) cell cell d (cell_of_possible s cell h) (omega arith) ∙ ap (λ t. cond t (Some (class_of s q cell)) None) h

length-filter-le : {X : Type 0} (test : X → Bool) (xs : List X) → length (filter test xs) ≤ length xs
length-filter-le test xs = omega (arith, length-filter test xs, count_by-le-length test xs)

pub length-classes_of : (s : Schema) (q : Query) → length (classes_of s q) ≤ cell_count s
length-classes_of s q =
    let classes = length-filter-le (is_class s q) (scope_cells s q) in
    let scope = length-filter-le (is_listed s q.only) (possible_cells s) in
    let possible = length-filter-le (is_possible s) (all_cells s) in
    omega (arith, classes, scope, possible, length-range_with_len 0 (cell_count s))

some_cells : (attributes : List Attribute) → All (λ a. 1 ≤ length a.values) attributes → 1 ≤ cells_in attributes
some_cells [] values = omega arith
some_cells (a ∷ rest) values = mul-le 1 1 (length a.values) (cells_in rest) (values 0 a (omega arith)) (some_cells rest (λ k d inside. values (suc k) d (omega arith)))

-- the kind of a cell, by the number of cells of a kind
pub record IsKind (s : Schema) (cell kind : ℕ) : Type 0 where
  pub is : kind ≡ kind_of s cell
  pub below : kind < kind_count s

module _ (total : Fraction) (recodes : List Recode) (zeros : List (List Listed)) (levels : List Level) where
  kind_by : (attributes : List Attribute) (cell : ℕ) → 1 ≤ length attributes → All (λ a. 1 ≤ length a.values) attributes → cell < cells_in attributes
      → let s : Schema = record { total = total; attributes = attributes; recodes = recodes; zeros = zeros; levels = levels } in IsKind s cell (cell / (cell_count s / kind_count s))
  kind_by [] cell some values below = absurd (omega arith)
  kind_by (a ∷ rest) cell some values below =
      let n = length a.values in
      let m = cells_in rest in
      let some_value : 1 ≤ n = values 0 a (omega arith) in
      let cells : n * m / n ≡ m = mul-div_cancel_left m some_value in
      let positive : 1 ≤ m = some_cells rest (λ k d inside. values (suc k) d (omega arith)) in
      let kind : cell / m < n = (div-lt_iff_lt-mul positive).1 below in
      record { is = ap (λ k. cell / k) cells ∙ sym (mod-eq_of_lt kind); below = rw cells kind }

pub kind_is : (s : Schema) (cell : ℕ) → 1 ≤ length s.attributes → All (λ a. 1 ≤ length a.values) s.attributes → cell < cell_count s → IsKind s cell (cell / (cell_count s / kind_count s))
kind_is s cell some values below = kind_by s.total s.recodes s.zeros s.levels s.attributes cell some values below
