-- Cells that rows match, row by row and key by key.
use Rattle.std.proofs.Common.{◌≡◌, ◌==◌, ℕ, zero, suc, ◌+◌, ◌<◌, ◌≤◌, Bool, true, false, not, ◌&&◌, List, ◌∷◌, length, get_or, take, map, replicate, refl, sym, ap, ◌∙◌, arith}
use Rattle.std.specs.List.{list_all, list_any, range_with_len}
use Rattle.std.proofs.lemmas.Bool.{lt-ltb}
use Rattle.std.proofs.lemmas.List.{take_all}
use Rattle.std.proofs.lemmas.List.Folds.{list_all_more}
use Rattle.std.proofs.lemmas.List.FromFn.{length-map-range_with_len, get_or-map-range_with_len}
use Rattle.tda_model.specs.Schema.{Listed, Schema}
use Rattle.tda_model.specs.Cells.{cell_count, value_at, is_listed, is_possible, all_cells}
use Rattle.tda_sets.proofs.Ranges.{map_range_agree}

all_true : (a n : ℕ) → replicate n true ≡ map (λ i. true) (range_with_len a n)
all_true a zero = refl
all_true a (suc n) = ap (λ bs. true ∷ bs) (all_true (a + 1) n)

module _ (s : Schema) where
  -- at the start nothing is left out
  pub nothing_out : (n : ℕ) (cells : List Bool) → n ≡ cell_count s → cells ≡ replicate n true → cells ≡ map (λ i. true) (all_cells s)
  nothing_out n cells counted is = is ∙ ap (λ x. replicate x true) counted ∙ all_true 0 (cell_count s)

  -- one cell's mark among those of a test
  mark : (test : ℕ → Bool) (cells : List Bool) → cells ≡ map test (all_cells s) → (i : ℕ) → i < cell_count s → get_or cells i false ≡ test i
  mark test cells is i below = ap (λ cs. get_or cs i false) is ∙ get_or-map-range_with_len test 0 (cell_count s) i i false below (omega arith)

  pub marks_length : (test : ℕ → Bool) (cells : List Bool) → cells ≡ map test (all_cells s) → length cells ≡ cell_count s
  marks_length test cells is = ap length is ∙ length-map-range_with_len test 0 (cell_count s)

  module _ (row : List Listed) (k : ℕ) (l : Listed) (below : k < length row) (at : l ≡ get_or row k l) (cells after : List Bool) where
    pub listed_more : cells ≡ map (is_listed s (take k row)) (all_cells s) → after ≡ map (λ i. get_or cells i false && list_any (λ v. v == value_at s i l.attribute) l.values) (all_cells s)
        → after ≡ map (is_listed s (take (k + 1) row)) (all_cells s)
    listed_more so_far kept =
        kept ∙ map_range_agree (λ i. get_or cells i false && list_any (λ v. v == value_at s i l.attribute) l.values) (is_listed s (take (k + 1) row)) 0 (cell_count s)
        (λ i low high.
        let has : Listed → Bool = λ x. list_any (λ v. v == value_at s i x.attribute) x.values in
        ap (λ b. b && has l) (mark (is_listed s (take k row)) cells so_far i (omega arith)) ∙ ap (λ (x : Listed). is_listed s (take k row) i && has x) at
        ∙ sym (list_all_more has row k l below))

  -- no row so far matches the cell
  abbrev pub none_matches : ℕ → ℕ → Bool
  none_matches k i = list_all (λ row. not (is_listed s row i)) (take k s.zeros)

  module _ (k : ℕ) (row : List Listed) (below : k < length s.zeros) (at : row ≡ get_or s.zeros k row) (cells matched after : List Bool) where
    pub possible_more : cells ≡ map (none_matches k) (all_cells s) → matched ≡ map (is_listed s row) (all_cells s)
        → after ≡ map (λ i. get_or cells i false && not (get_or matched i false)) (range_with_len 0 (length cells)) → after ≡ map (none_matches (k + 1)) (all_cells s)
    possible_more so_far match left =
        left ∙ ap (λ n. map (λ i. get_or cells i false && not (get_or matched i false)) (range_with_len 0 n)) (marks_length (none_matches k) cells so_far)
        ∙ map_range_agree (λ i. get_or cells i false && not (get_or matched i false)) (none_matches (k + 1)) 0 (cell_count s)
        (λ i low high.
        let near : i < cell_count s = omega arith in
        ap (λ b. b && not (get_or matched i false)) (mark (none_matches k) cells so_far i near)
        ∙ ap (λ b. none_matches k i && not b) (mark (is_listed s row) matched match i near)
        ∙ ap (λ x. none_matches k i && not (is_listed s x i)) at
        ∙ sym (list_all_more (λ x. not (is_listed s x i)) s.zeros k row below))

  -- at the end the possible cells are left
  pub possible_all : (k : ℕ) (cells : List Bool) → length s.zeros ≤ k → cells ≡ map (none_matches k) (all_cells s) → cells ≡ map (is_possible s) (all_cells s)
  possible_all k cells all is =
      is ∙ map_range_agree (none_matches k) (is_possible s) 0 (cell_count s)
      (λ i low high.
      ap (list_all (λ row. not (is_listed s row i))) (take_all k s.zeros all)
      ∙ sym (ap (λ b. b && list_all (λ row. not (is_listed s row i)) s.zeros) (lt-ltb i (cell_count s) (omega arith))))
