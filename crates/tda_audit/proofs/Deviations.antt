-- What is added up to a deviation.
use Rattle.std.proofs.Common.{◌≡◌, ℕ, zero, suc, ◌+◌, ◌*◌, ◌<◌, ◌≤◌, ◌^◌, ◌==◌, ◌&&◌, ℤ, pos, negsuc, ◌-ℤ◌, ◌≤ℤ◌, Bool, List, [], ◌∷◌, length, get_or, take, filter, Contains, to_z, of_z, FitsSigned, refl, sym, ap, ◌∙◌, subst, arith}
use Rattle.std.specs.Prelude.{nat_abs}
use Rattle.std.specs.Int.{w64, w128}
use Rattle.std.specs.List.{sum_by, range_with_len}
use Rattle.std.proofs.lemmas.Int.{ints, to_z-of_z}
use Rattle.std.proofs.lemmas.List.{take_more}
use Rattle.std.proofs.lemmas.List.Elements.{recursion_from_All}
use Rattle.std.proofs.lemmas.List.Sums.{sum_by_push}
use Rattle.std.proofs.Math.Nat.{mul-le-mul}
use Rattle.tda_model.specs.Schema.{Schema, Query}
use Rattle.tda_model.specs.Bounds.{persons_limit}
use Rattle.tda_model.specs.Cells.{cell_count, is_possible, is_listed, all_cells, possible_cells}
use Rattle.tda_model.specs.Groups.{class_cells, scope_cells, is_class, classes_of}
use Rattle.tda_model.specs.Tables.{Table, persons_in}
use Rattle.tda_model.specs.Deviation.{weight_of, query_deviation, deviation_from}
use Rattle.tda_model.proofs.Sums.{sum_filter_le, sum_same}
use Rattle.tda_sets.proofs.Members.{passing_below, Contains-unfiltered, All-from_Contains}
use Rattle.tda_sets.proofs.Ranges.{filter-filter}
use Rattle.tda_schema.specs.Stated.{class_of}
use Rattle.tda_groups.proofs.Classes.{scope_is, class_names, named_is}
use Rattle.tda_places.specs.Measurements.{IsWithinLimit}
use Rattle.tda_loss.specs.declared.Curve.{Curve}
use Rattle.tda_loss.specs.Curve.{IsWithin, value_of}
use Rattle.tda_loss.proofs.Laws.{value_of-within}
use Rattle.tda_fitnet.specs.Fits.{curve_of}
use Rattle.tda_audit.proofs.Limits.{near_within}
use Rattle.tda_audit.proofs.SumsBy.{part}

product : (w : ℕ) (v : ℤ) (n : ℕ) → pos 0 ≤ℤ v → v ≤ℤ pos n → w ≤ 2 ^ 24 → n ≤ 2 ^ 64 → w * nat_abs v ≤ 2 ^ 88
product w (pos k) n low high few most = let b : k ≤ 2 ^ 64 = omega (arith, ints, high) in omega (arith, mul-le-mul few b)
product w (negsuc k) n low high few most = absurd (omega (arith, ints, low))

-- the distance, as the code makes it
pub distance : (x : ℕ) (t : ℤ) → x ≤ persons_limit → IsWithinLimit t → to_z w64 (of_z w64 (to_z w64 x -ℤ to_z w64 (of_z w64 t))) ≡ pos x -ℤ t
distance x t few limit = let near = near_within t limit in omega (arith, ints, near.low, near.high)

pub near_distance : (x : ℕ) (t : ℤ) → x ≤ persons_limit → IsWithinLimit t → IsWithin (2 ^ 32) (pos x -ℤ t)
near_distance x t few limit = let near = near_within t limit in record { low = omega (arith, ints, near.low, near.high); high = omega (arith, ints, near.low, near.high) }

-- the weight times the value, as the code multiplies them
pub class_is : (cv : Curve) (weight w a x : ℕ) (t d v : ℤ) → weight ≤ 2 ^ 24 → IsWithinLimit t → x ≤ persons_limit → w ≡ weight → d ≡ pos x -ℤ t → v ≡ value_of cv d → a ≡ nat_abs (to_z w128 (of_z w128 v))
    → (w * a ≡ weight * curve_of cv (pos x -ℤ t)) × (w * a ≤ 2 ^ 88)
class_is cv weight w a x t d v few limit persons ew ed ev ea =
    let b = value_of-within cv (2 ^ 32) (pos x -ℤ t) (near_distance x t persons limit) in
    let p = product weight (value_of cv (pos x -ℤ t)) (2 ^ 32 * 2 ^ 32) b.0 b.1 few (omega arith) in
    let value_is : v ≡ value_of cv (pos x -ℤ t) = ev ∙ ap (value_of cv) ed in
    let fits : FitsSigned w128 v = rw value_is (omega (arith, ints, b.0, b.1)) in
    let same : w * a ≡ weight * nat_abs (value_of cv (pos x -ℤ t)) = rw (ea, to_z-of_z w128 v fits, value_is, ew) refl in
    (same, subst (λ n. n ≤ 2 ^ 88) (sym same) p)

pub target_back : (z : ℤ) → IsWithinLimit z → to_z w64 (of_z w64 z) ≡ z
target_back z limit = let near = near_within z limit in let fits : FitsSigned w64 z = omega (arith, ints, near.low, near.high) in to_z-of_z w64 z fits

-- one more of a list
pub sum_step : (f : ℕ → ℕ) (xs : List ℕ) (k : ℕ) → k < length xs → sum_by f (take (k + 1) xs) ≡ sum_by f (take k xs) + f (get_or xs k 0)
sum_step f xs k below = ap (sum_by f) (take_more xs k 0 below) ∙ sum_by_push f (take k xs) (get_or xs k 0)

-- the count of a possible cell belongs under its class
abbrev pub is_of_class : Schema → Query → ℕ → ℕ → Bool
is_of_class s q c j = is_possible s j && (class_of s q j == c)

module _ (s : Schema) (q : Query) (over_all : q.only ≡ []) (x : Table) where
  pub class_sum : (c : ℕ) → Contains (classes_of s q) c → part (is_of_class s q) x (cell_count s) c ≡ sum_by x (class_cells s q c)
  class_sum c found =
      ap (sum_by x) (sym (filter-filter (λ j. class_of s q j == c) (is_possible s) (all_cells s))
      ∙ ap (filter (λ j. class_of s q j == c)) (sym (scope_is s q over_all)) ∙ named_is s q over_all c (class_names s q over_all c found))

  pub part_few : (c : ℕ) → part (is_of_class s q) x (cell_count s) c ≤ persons_in s x
  part_few c = sum_filter_le x (is_of_class s q c) (range_with_len 0 (cell_count s))

-- a class is named by a cell
pub class_low : (s : Schema) (q : Query) (c : ℕ) → Contains (classes_of s q) c → c < cell_count s
class_low s q c found =
    passing_below (is_possible s) (cell_count s) c (Contains-unfiltered (is_listed s q.only) (possible_cells s) c (Contains-unfiltered (is_class s q) (scope_cells s q) c found))

-- ---- over the queries of a level
module _ (curve : ℤ → ℕ) (s : Schema) (common : ℕ) (measured : ℕ → ℕ → ℤ) (x : Table) where
  pub deviation_more : (n : ℕ) (qs : List Query) (k : ℕ) (d : Query) → k < length qs
      → deviation_from curve s common n (take (k + 1) qs) measured x ≡ deviation_from curve s common n (take k qs) measured x + query_deviation curve s common (get_or qs k d) (measured (n + k)) x
  deviation_more n [] k d low = absurd (omega arith)
  deviation_more n (q ∷ qs) zero d low =
      let e : zero + 1 ≡ suc zero = omega arith in
      let z : n + 0 ≡ n = omega arith in
      let first = query_deviation curve s common q (measured n) x in
      let none : first + 0 ≡ 0 + first = omega arith in
      ap (λ m. deviation_from curve s common n (take m (q ∷ qs)) measured x) e ∙ none ∙ ap (λ m. 0 + query_deviation curve s common q (measured m) x) (sym z)
  deviation_more n (q ∷ qs) (suc k) d low =
      let e : suc k + 1 ≡ suc (k + 1) = omega arith in
      let z : n + 1 + k ≡ n + suc k = omega arith in
      let rest = deviation_more (n + 1) qs k d (omega arith) in
      let at = ap (λ m. query_deviation curve s common (get_or qs k d) (measured m) x) z in
      ap (λ m. deviation_from curve s common n (take m (q ∷ qs)) measured x) e ∙ omega (arith, rest, at)

  -- a query by counts of its classes
  pub by_counts : (q : Query) (own : ℕ → ℤ) (counts : List ℕ) → ((c : ℕ) → Contains (classes_of s q) c → get_or counts c 0 ≡ sum_by x (class_cells s q c))
      → sum_by (λ c. weight_of common q * curve (pos (get_or counts c 0) -ℤ own c)) (classes_of s q) ≡ query_deviation curve s common q own x
  by_counts q own counts are =
      sum_same (λ c. weight_of common q * curve (pos (get_or counts c 0) -ℤ own c)) (λ c. weight_of common q * curve (pos (sum_by x (class_cells s q c)) -ℤ own c)) (classes_of s q)
      (recursion_from_All _ (classes_of s q) (All-from_Contains _ (classes_of s q) (λ c found. ap (λ n. weight_of common q * curve (pos n -ℤ own c)) (are c found))))
