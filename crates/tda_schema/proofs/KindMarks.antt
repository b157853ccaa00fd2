-- Marks of the kinds that have a possible cell.
use Rattle.std.proofs.Common.{◌≡◌, ◌==◌, ℕ, zero, suc, ◌+◌, ◌<◌, ◌≤◌, Bool, true, false, ◌&&◌, ◌||◌, List, [], ◌∷◌, length, get_or, set, map, replicate, refl, sym, ap, ◌∙◌, arith, inl, inr, get_or-set_same, get_or-set_other}
use Rattle.std.specs.List.{list_all, list_any, range_with_len}
use Rattle.std.proofs.lemmas.Bool.{cases_eq, eq-eqb, ne_eqb, and_from, and_right, and_left, or_right, le-leb}
use Rattle.std.proofs.lemmas.List.{length-set, length-replicate, get_or-replicate, ext_get_or}
use Rattle.std.proofs.lemmas.List.Folds.{list_any-append, list_all-map}
use Rattle.std.proofs.lemmas.List.FromFn.{length-map-range_with_len, get_or-map-range_with_len}
use Rattle.tda_model.specs.Schema.{Schema}
use Rattle.tda_model.specs.Cells.{cell_count, is_possible, kind_of, all_cells, possible_cells}
use Rattle.tda_model.specs.Groups.{kind_count}
use Rattle.tda_sets.proofs.Ranges.{range_more, map_range_agree}
use Rattle.tda_schema.specs.Columns.{columns_of}
use Rattle.tda_schema.specs.Parts.{has_kinds}
use Rattle.tda_schema.specs.Readers.{values_of, IsWithinLimits}
use Rattle.tda_schema.proofs.ColumnLemmas.{column_length, column_value}
use Rattle.tda_schema.proofs.LevelGroups.{kind_count_is, kind_below}
use Rattle.tda_schema.proofs.PartTests.{any_filter}

or_none : (b : Bool) → (b || false) ≡ b
or_none true = refl
or_none false = refl

-- tests that agree below a count, and so do their disjunctions
list_any_agree : (p q : ℕ → Bool) (a n : ℕ) → ((i : ℕ) → a ≤ i → i < a + n → p i ≡ q i) → list_any p (range_with_len a n) ≡ list_any q (range_with_len a n)
list_any_agree p q a zero same = refl
list_any_agree p q a (suc n) same =
    ap (λ b. b || list_any p (range_with_len (a + 1) n)) (same a (omega arith) (omega arith))
    ∙ ap (λ b. q a || b) (list_any_agree p q (a + 1) n (λ i low high. same i (omega arith) (omega arith)))

module _ (possible : List Bool) (kinds : List ℕ) where
  -- the cell is possible and of the kind
  abbrev pub has_kind : ℕ → ℕ → Bool
  has_kind k i = get_or possible i false && (get_or kinds i 0 == k)

  abbrev so_far : ℕ → ℕ → Bool
  so_far i k = list_any (has_kind k) (range_with_len 0 i)

  one_more : (i k : ℕ) → so_far (i + 1) k ≡ (so_far i k || has_kind k i)
  one_more i k =
      ap (list_any (has_kind k)) (range_more i) ∙ list_any-append (has_kind k) (range_with_len 0 i) (i ∷ []) ∙ ap (λ b. so_far i k || b) (or_none (has_kind k i))

  -- the kinds of the first cells are marked
  pub record AreKindMarks (count i : ℕ) (marks : List Bool) : Type 0 where
    pub room : length marks ≡ count
    pub entry : (k : ℕ) → k < count → get_or marks k false ≡ so_far i k

  pub no_marks : (count : ℕ) (marks : List Bool) → marks ≡ replicate count false → AreKindMarks count 0 marks
  no_marks count marks is = record {
    room = ap length is ∙ length-replicate count false;
    entry = λ k below. ap (λ ms. get_or ms k false) is ∙ get_or-replicate count k false false below;
  }

  module _ (count i : ℕ) (marks : List Bool) (m : AreKindMarks count i marks) where
    pub mark_skips : get_or possible i false ≡ false → AreKindMarks count (i + 1) marks
    mark_skips impossible = record {
      room = m.room;
      entry = λ k below. m.entry k below ∙ sym (one_more i k ∙ ap (λ b. so_far i k || b) (and_left (get_or possible i false) (get_or kinds i 0 == k) impossible) ∙ or_none (so_far i k));
    }

    pub mark_sets : (after : List Bool) → get_or possible i false ≡ true → get_or kinds i 0 < count → after ≡ set marks (get_or kinds i 0) true → AreKindMarks count (i + 1) after
    mark_sets after possible_here low is =
        let kind = get_or kinds i 0 in
        record {
          room = ap length is ∙ length-set marks kind true ∙ m.room;
          entry = λ k below.
              elim (cases_eq kind k) [
                | inl e ↦
                    ap (λ ms. get_or ms k false) is ∙ ap (λ j. get_or (set marks j true) k false) e ∙ get_or-set_same marks k true false (omega (arith, m.room))
                    ∙ sym (one_more i k ∙ or_right (so_far i k) (has_kind k i) (and_from (get_or possible i false) (kind == k) possible_here (eq-eqb kind k e)))
                | inr other ↦
                    ap (λ ms. get_or ms k false) is ∙ get_or-set_other marks kind k true false (λ e. other (sym e)) ∙ m.entry k below
                    ∙ sym (one_more i k ∙ ap (λ b. so_far i k || b) (and_right (get_or possible i false) (kind == k) (ne_eqb kind k other)) ∙ or_none (so_far i k))
              ];
        }

  pub marks_all : (count i : ℕ) (marks : List Bool) → AreKindMarks count i marks → marks ≡ map (λ k. list_any (has_kind k) (range_with_len 0 i)) (range_with_len 0 count)
  marks_all count i marks m =
      let f : ℕ → Bool = so_far i in
      ext_get_or false marks (map f (range_with_len 0 count)) (m.room ∙ sym (length-map-range_with_len f 0 count))
      (λ k below. let near : k < count = omega (arith, m.room) in m.entry k near ∙ sym (get_or-map-range_with_len f 0 count k k false near (omega arith)))

-- ---- the kinds of a schema

module _ (s : Schema) (limits : IsWithinLimits s) (columns : List (List ℕ)) (same : columns ≡ columns_of s.attributes) (possible : List Bool) (are : possible ≡ map (is_possible s) (all_cells s)) where
  abbrev pub kinds_column : List ℕ
  kinds_column = get_or columns 0 []

  pub kinds_length : length kinds_column ≡ cell_count s
  kinds_length = column_length s.attributes columns same 0 limits.some_attribute

  pub possible_length : length possible ≡ cell_count s
  possible_length = ap length are ∙ length-map-range_with_len (is_possible s) 0 (cell_count s)

  has_cell_is : (k : ℕ) → list_any (has_kind possible kinds_column k) (range_with_len 0 (length kinds_column)) ≡ list_any (λ cell. kind_of s cell == k) (possible_cells s)
  has_cell_is k =
      ap (λ n. list_any (has_kind possible kinds_column k) (range_with_len 0 n)) kinds_length
      ∙ list_any_agree (has_kind possible kinds_column k) (λ i. is_possible s i && (kind_of s i == k)) 0 (cell_count s)
      (λ i low high.
      let near : i < cell_count s = omega arith in
      ap (λ ms. get_or ms i false && (get_or kinds_column i 0 == k)) are
      ∙ ap (λ b. b && (get_or kinds_column i 0 == k)) (get_or-map-range_with_len (is_possible s) 0 (cell_count s) i i false near (omega arith))
      ∙ ap (λ x. is_possible s i && (x == k)) (column_value s.attributes columns same 0 limits.some_attribute i near))
      ∙ sym (any_filter (λ cell. kind_of s cell == k) (is_possible s) (all_cells s))

  some_kind : 1 ≤ kind_count s
  some_kind = let below = kind_below s limits 0 in omega (arith, below)

  module _ (count : ℕ) (marks : List Bool) (counted : count ≡ length (values_of s 0)) where
    pub marks_tell : marks ≡ map (λ k. list_any (has_kind possible kinds_column k) (range_with_len 0 (length kinds_column))) (range_with_len 0 count) → list_all (λ m. m) marks ≡ has_kinds s
    marks_tell is =
        let mark : ℕ → Bool = λ k. list_any (has_kind possible kinds_column k) (range_with_len 0 (length kinds_column)) in
        let has : ℕ → Bool = λ k. list_any (λ cell. kind_of s cell == k) (possible_cells s) in
        ap (list_all (λ m. m)) (is ∙ ap (λ n. map mark (range_with_len 0 n)) (counted ∙ kind_count_is s) ∙ map_range_agree mark has 0 (kind_count s) (λ k low high. has_cell_is k))
        ∙ list_all-map (λ m. m) has (range_with_len 0 (kind_count s))
        ∙ sym (ap (λ b. b && list_all has (range_with_len 0 (kind_count s))) (le-leb 1 (kind_count s) some_kind))
