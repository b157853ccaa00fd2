-- The sums of a query's classes, as they are written.
use Rattle.std.proofs.Common.{◌≡◌, ℕ, ◌+◌, ◌<◌, ◌≤◌, Bool, true, false, ◌&&◌, ◌==◌, List, [], ◌∷◌, length, get_or, map, set, filter, refl, sym, ap, ◌∙◌, subst, inl, inr, arith, ne_eqb, eq-eqb, sum_by, All}
use Rattle.std.proofs.lemmas.Bool.{cases_Bool, cases_eq}
use Rattle.std.proofs.lemmas.List.{get_or-set_same, get_or-set_other, length-set}
use Rattle.std.proofs.lemmas.List.Elements.{All-get_or, All-from_recursion, recursion_from_All}
use Rattle.std.proofs.lemmas.List.Sums.{sum_by_push, sum_by-take-le}
use Rattle.std.specs.List.{range_with_len}
use Rattle.tda_frac.specs.Fraction.{reciprocal_of}
use Rattle.tda_model.specs.Bounds.{persons_limit}
use Rattle.tda_model.specs.Schema.{Query, Schema}
use Rattle.tda_model.specs.Cells.{cell_count, is_possible, is_listed, all_cells, possible_cells}
use Rattle.tda_model.specs.Groups.{one_class, scope_cells, class_cells, classes_of}
use Rattle.tda_model.specs.Tables.{Table, persons_in}
use Rattle.tda_model.proofs.Sums.{Each, each_weaker, sum_filter_le}
use Rattle.tda_sets.proofs.Ranges.{filter-filter, filter_range_agree, filter_range_push, filter_range_skip}
use Rattle.tda_schema.specs.Parts.{holds}
use Rattle.tda_schema.specs.Shares.{frac_of}
use Rattle.tda_schema.specs.Stated.{class_of}
use Rattle.tda_places.proofs.Nested.{take_range}
use Rattle.tda_hist.specs.TrueTable.{class_sum}
use Rattle.tda_hist.proofs.Living.{holds_kept, holds_range}
use Rattle.tda_hist.proofs.ClassCells.{in_class, IsClass, each_class}
use Rattle.tda_measure.specs.Steps.{class_step, written_step, query_steps}

-- the cell is possible, and its class is c
abbrev pub is_in : Schema → Query → ℕ → ℕ → Bool
is_in s q c j = is_possible s j && (class_of s q j == c)

-- what stands under c after so many cells
abbrev pub part : Schema → Query → Table → ℕ → ℕ → ℕ
part s q x cells c = sum_by x (filter (is_in s q c) (range_with_len 0 cells))

-- the first numbers of a range
range_le : (x : ℕ → ℕ) (k n : ℕ) → k ≤ n → sum_by x (range_with_len 0 k) ≤ sum_by x (range_with_len 0 n)
range_le x k n within = let le = sum_by-take-le x (range_with_len 0 n) k in subst (λ ks. sum_by x ks ≤ sum_by x (range_with_len 0 n)) (take_range k n within) le

-- a class has no more persons than the table
pub class_few : (s : Schema) (q : Query) (x : Table) (c : ℕ) → class_sum s q x c ≤ persons_in s x
class_few s q x c =
    let class = sum_filter_le x (one_class s q c) (scope_cells s q) in
    let scope = sum_filter_le x (is_listed s q.only) (possible_cells s) in
    let possible = sum_filter_le x (is_possible s) (all_cells s) in
    omega (arith, class, scope, possible)

module _ (s : Schema) (q : Query) (x : Table) where
  part_yes : (n c : ℕ) → is_in s q c n ≡ true → part s q x (n + 1) c ≡ part s q x n c + x n
  part_yes n c is = ap (sum_by x) (filter_range_push (is_in s q c) n is) ∙ sum_by_push x (filter (is_in s q c) (range_with_len 0 n)) n

  part_no : (n c : ℕ) → is_in s q c n ≡ false → part s q x (n + 1) c ≡ part s q x n c
  part_no n c isnt = ap (sum_by x) (filter_range_skip (is_in s q c) n isnt)

  -- the sums so far
  pub record AreParts (n : ℕ) (sums : List ℕ) : Type 0 where
    pub size : length sums ≡ cell_count s
    pub parts : (c : ℕ) → c < cell_count s → get_or sums c 0 ≡ part s q x n c

  pub parts_start : (sums : List ℕ) → length sums ≡ cell_count s → ((c : ℕ) → c < cell_count s → get_or sums c 0 ≡ 0) → AreParts 0 sums
  parts_start sums size zeros = record { size = size; parts = zeros }

  and_first : (b c : Bool) → b ≡ true → (b && c) ≡ c
  and_first b c e = ap (λ t. t && c) e

  and_none : (b c : Bool) → b ≡ false → (b && c) ≡ false
  and_none b c e = ap (λ t. t && c) e

  pub parts_skip : (n : ℕ) (sums : List ℕ) → is_possible s n ≡ false → AreParts n sums → AreParts (n + 1) sums
  parts_skip n sums isnt h = record { size = h.size; parts = λ c below. h.parts c below ∙ sym (part_no n c (and_none (is_possible s n) (class_of s q n == c) isnt)) }

  module _ (n : ℕ) (possible : is_possible s n ≡ true) where
    here_is : (c : ℕ) → is_in s q c n ≡ (class_of s q n == c)
    here_is c = and_first (is_possible s n) (class_of s q n == c) possible

    pub parts_more : (sums : List ℕ) → class_of s q n < cell_count s → AreParts n sums → AreParts (n + 1) (set sums (class_of s q n) (get_or sums (class_of s q n) 0 + x n))
    parts_more sums within h =
        let a = class_of s q n in
        let size : length (set sums a (get_or sums a 0 + x n)) ≡ cell_count s = length-set sums a (get_or sums a 0 + x n) ∙ h.size in
        record {
          size = size;
          parts = λ c below. elim (cases_eq a c) [
            | inl e ↦
                let inside : a < length sums = omega (arith, h.size, within) in
                let now : get_or (set sums a (get_or sums a 0 + x n)) c 0 ≡ get_or sums a 0 + x n = ap (λ k. get_or (set sums a (get_or sums a 0 + x n)) k 0) (sym e) ∙ get_or-set_same sums a (get_or sums a 0 + x n) 0 inside in
                now ∙ ap (λ k. get_or sums k 0 + x n) e ∙ ap (λ k. k + x n) (h.parts c below) ∙ sym (part_yes n c (here_is c ∙ eq-eqb a c e))
            | inr other ↦
                get_or-set_other sums a c (get_or sums a 0 + x n) 0 (λ e. other (sym e)) ∙ h.parts c below ∙ sym (part_no n c (here_is c ∙ ne_eqb a c other))
          ];
        }

    pub room_for : (sums : List ℕ) → class_of s q n < cell_count s → n < cell_count s → persons_in s x ≤ persons_limit → AreParts n sums → get_or sums (class_of s q n) 0 + x n ≤ persons_limit
    room_for sums within below few h =
        let a = class_of s q n in
        let now = part_yes n a (here_is a ∙ eq-eqb a a refl) in
        let up = part_le (n + 1) a (omega arith) in
        omega (arith, h.parts a within, now, up, few)
      where
        part_le : (k c : ℕ) → k ≤ cell_count s → part s q x k c ≤ persons_in s x
        part_le k c within = omega (arith, sum_filter_le x (is_in s q c) (range_with_len 0 k), range_le x k (cell_count s) within)

  module _ (whole : q.only ≡ []) where
    same_tests : (possible listed one there t : Bool) → possible ≡ true → there ≡ true → (one && (listed && (possible && there))) ≡ t → ((possible && listed) && one) ≡ (possible && t)
    same_tests true true true true t p h e = e
    same_tests true true false true t p h e = e
    same_tests true false true true t p h e = e
    same_tests true false false true t p h e = e
    same_tests true true one false t p h e = cc
    same_tests true false one false t p h e = cc
    same_tests false listed one there t p h e = cc

    neither : (possible listed one t : Bool) → possible ≡ false → ((possible && listed) && one) ≡ (possible && t)
    neither true listed one t e = cc
    neither false listed one t e = refl

    module _ (c : ℕ) (class : IsClass s q whole c) where
      cell_same : (j : ℕ) → j < cell_count s → ((is_possible s j && is_listed s q.only j) && one_class s q c j) ≡ is_in s q c j
      cell_same j below = elim (cases_Bool (is_possible s j)) [
        | inl so ↦
            same_tests (is_possible s j) (is_listed s q.only j) (one_class s q c j) (holds (all_cells s) j) (class_of s q j == c) so (holds_range 0 (cell_count s) j (omega arith) (omega arith))
            (sym (holds_kept (one_class s q c) j (scope_cells s q) ∙ ap (λ b. one_class s q c j && b) (holds_kept (is_listed s q.only) j (possible_cells s) ∙ ap (λ b. is_listed s q.only j && b) (holds_kept (is_possible s) j (all_cells s))))
            ∙ in_class s q whole j c so class.first class.possible)
        | inr isnt ↦ neither (is_possible s j) (is_listed s q.only j) (one_class s q c j) (class_of s q j == c) isnt
      ]

      cells_are : class_cells s q c ≡ filter (is_in s q c) (all_cells s)
      cells_are =
          ap (filter (one_class s q c)) (filter-filter (is_listed s q.only) (is_possible s) (all_cells s))
          ∙ filter-filter (one_class s q c) (λ j. is_possible s j && is_listed s q.only j) (all_cells s)
          ∙ filter_range_agree (λ j. (is_possible s j && is_listed s q.only j) && one_class s q c j) (is_in s q c) 0 (cell_count s) (λ j low high. cell_same j (omega arith))

      pub part_is : part s q x (cell_count s) c ≡ class_sum s q x c
      part_is = ap (sum_by x) (sym cells_are)

    -- after the last cell
    pub parts_are : (sums : List ℕ) → AreParts (cell_count s) sums → All (λ c. get_or sums c 0 ≡ class_sum s q x c) (classes_of s q)
    parts_are sums h =
        All-from_recursion (λ c. get_or sums c 0 ≡ class_sum s q x c) (classes_of s q)
        (each_weaker (IsClass s q whole) (λ c. get_or sums c 0 ≡ class_sum s q x c) (classes_of s q) (λ c class. h.parts c class.below ∙ part_is c class) (each_class s q whole))

    -- a class is a cell
    pub class_is_cell : (i d : ℕ) → i < length (classes_of s q) → get_or (classes_of s q) i d < cell_count s
    class_is_cell i d below =
        All-get_or (λ c. c < cell_count s) (classes_of s q) i d below
        (All-from_recursion (λ c. c < cell_count s) (classes_of s q) (each_weaker (IsClass s q whole) (λ c. c < cell_count s) (classes_of s q) (λ c class. class.below) (each_class s q whole)))

-- what is written under the classes makes the steps
steps_same : (s : Schema) (q : Query) (x : Table) (sums cs : List ℕ) → Each (λ c. get_or sums c 0 ≡ class_sum s q x c) cs → map (written_step q sums) cs ≡ map (class_step s q x) cs
steps_same s q x sums [] h = refl
steps_same s q x sums (c ∷ cs) (e, h) =
    let same : written_step q sums c ≡ class_step s q x c = ap (λ n. record { sum = n; variance = reciprocal_of (frac_of q.share) }) e in
    rw (same, steps_same s q x sums cs h) refl

pub written_steps : (s : Schema) (q : Query) (x : Table) (sums : List ℕ) → All (λ c. get_or sums c 0 ≡ class_sum s q x c) (classes_of s q) → map (written_step q sums) (classes_of s q) ≡ query_steps s q x
written_steps s q x sums all = steps_same s q x sums (classes_of s q) (recursion_from_All _ (classes_of s q) all)
