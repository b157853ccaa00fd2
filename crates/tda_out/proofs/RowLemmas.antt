-- Counts by their numbers: what makes them up, what a change of one does, and counts that stand side by side.
use Rattle.std.proofs.Common.{◌≡◌, ◌≢◌, ℕ, ◌+◌, ◌*◌, ◌<◌, ◌≤◌, List, [], map, length, get_or, set, replicate, refl, sym, ap, ◌∙◌, inl, inr, arith}
use Rattle.std.specs.List.{range_with_len}
use Rattle.std.proofs.lemmas.Bool.{cases_eq}
use Rattle.std.proofs.lemmas.Nat.{mul-add-lt, same_from_place}
use Rattle.std.proofs.lemmas.List.{length-set, get_or-set_same, get_or-set_other, get_or-replicate, length-replicate, get_or_default, same_lists}
use Rattle.std.proofs.lemmas.List.FromFn.{length-map-range_with_len, get_or-map-range_with_len}
use Rattle.std.proofs.lemmas.List.Elements.{All-set, All-replicate}
use Rattle.tda_model.specs.Bounds.{persons_limit}
use Rattle.tda_model.specs.Schema.{Schema}
use Rattle.tda_model.specs.Cells.{cell_count}
use Rattle.tda_model.specs.Spine.{Spine}
use Rattle.tda_model.specs.Tables.{Tables}
use Rattle.tda_out.specs.Counts.{Counts, count_at, counts_of, with_count, AreCountsOf, rows_of, AreRows}

from_zero : (n : ℕ) → 0 + n ≡ n
from_zero n = omega arith

-- so many lists of so many numbers
pub record IsGrid (units cells : ℕ) (rows : Counts) : Type 0 where
  pub size : length rows ≡ units
  pub sizes : (u : ℕ) → u < units → length (get_or rows u []) ≡ cells

-- a list for each unit, and in it a number for each cell
abbrev pub grid : ℕ → ℕ → Tables → Counts
grid units cells x = map (λ u. map (x u) (range_with_len 0 cells)) (range_with_len 0 units)

module _ (units cells : ℕ) where
  module _ (x : Tables) where
    row_in : (u : ℕ) (d : List ℕ) → u < units → get_or (grid units cells x) u d ≡ map (x u) (range_with_len 0 cells)
    row_in u d here = get_or-map-range_with_len (λ v. map (x v) (range_with_len 0 cells)) 0 units u u d here (from_zero u)

    pub is_grid : IsGrid units cells (grid units cells x)
    is_grid = record {
      size = length-map-range_with_len (λ u. map (x u) (range_with_len 0 cells)) 0 units;
      sizes = λ u here. ap length (row_in u [] here) ∙ length-map-range_with_len (x u) 0 cells;
    }

    pub number_in : (u j : ℕ) → u < units → j < cells → count_at (grid units cells x) u j ≡ x u j
    number_in u j here in_row =
        ap (λ row. get_or row j 0) (row_in u [] here) ∙ get_or-map-range_with_len (x u) 0 cells j j 0 in_row (from_zero j)

  -- the numbers make up the lists
  pub grid_is : (rows : Counts) (x : Tables) → IsGrid units cells rows
      → ((u j : ℕ) → u < units → j < cells → count_at rows u j ≡ x u j) → rows ≡ grid units cells x
  grid_is rows x g same =
      same_lists rows (grid units cells x) (g.size ∙ sym (is_grid x).size) (λ u d within.
      let here : u < units = omega (arith, g.size) in
      get_or_default rows u d [] within ∙ row_is u here ∙ sym (row_in x u d here))
    where
      row_is : (u : ℕ) → u < units → get_or rows u [] ≡ map (x u) (range_with_len 0 cells)
      row_is u here =
          same_lists (get_or rows u []) (map (x u) (range_with_len 0 cells)) (g.sizes u here ∙ sym (length-map-range_with_len (x u) 0 cells)) (λ j d within.
          let in_row : j < cells = omega (arith, g.sizes u here) in
          get_or_default (get_or rows u []) j d 0 within ∙ same u j here in_row ∙ sym (get_or-map-range_with_len (x u) 0 cells j j d in_row (from_zero j)))

  -- one number is changed
  module _ (rows : Counts) (g : IsGrid units cells rows) (u j n : ℕ) where
    changed_row : u < units → get_or (with_count rows u j n) u [] ≡ set (get_or rows u []) j n
    changed_row here = get_or-set_same rows u (set (get_or rows u []) j n) [] (omega (arith, g.size))

    pub grid_changed : IsGrid units cells (with_count rows u j n)
    grid_changed = record {
      size = length-set rows u (set (get_or rows u []) j n) ∙ g.size;
      sizes = λ v here. elim (cases_eq v u) [
        | inl e ↦ size_here v here e
        | inr other ↦ ap length (get_or-set_other rows u v (set (get_or rows u []) j n) [] other) ∙ g.sizes v here
      ];
    }
      where
        size_here : (v : ℕ) → v < units → v ≡ u → length (get_or (with_count rows u j n) v []) ≡ cells
        size_here v here e =
            let at : u < units = omega arith in
            ap (λ w. length (get_or (with_count rows u j n) w [])) e ∙ ap length (changed_row at) ∙ length-set (get_or rows u []) j n ∙ g.sizes u at

    pub changed_here : u < units → j < cells → count_at (with_count rows u j n) u j ≡ n
    changed_here here in_row = ap (λ row. get_or row j 0) (changed_row here) ∙ get_or-set_same (get_or rows u []) j n 0 (omega (arith, g.sizes u here))

    pub kept_unit : (v i : ℕ) → v ≢ u → count_at (with_count rows u j n) v i ≡ count_at rows v i
    kept_unit v i other = ap (λ row. get_or row i 0) (get_or-set_other rows u v (set (get_or rows u []) j n) [] other)

    pub kept_cell : (i : ℕ) → u < units → i ≢ j → count_at (with_count rows u j n) u i ≡ count_at rows u i
    kept_cell i here other = ap (λ row. get_or row i 0) (changed_row here) ∙ get_or-set_other (get_or rows u []) j i n 0 other

  -- numbers that stand side by side
  module _ (numbers : List ℕ) where
    pub rows_grid : IsGrid units cells (rows_of units cells numbers)
    rows_grid = is_grid (λ u j. get_or numbers (u * cells + j) 0)

    pub in_rows : (u j : ℕ) → u < units → j < cells → count_at (rows_of units cells numbers) u j ≡ get_or numbers (u * cells + j) 0
    in_rows = number_in (λ u j. get_or numbers (u * cells + j) 0)

  pub place_lt : (u j size : ℕ) → size ≡ units * cells → u < units → j < cells → u * cells + j < size
  place_lt u j size size_is here in_row = omega (arith, mul-add-lt u cells j units here in_row)

  -- what is in range of the lists is in range of the numbers
  pub record IsPlace (numbers : List ℕ) (u j : ℕ) : Type 0 where
    pub unit : u < units
    pub cell : j < cells
    pub below : u * cells + j < length numbers

  pub in_range : (numbers : List ℕ) (rows : Counts) (u j : ℕ) → AreRows units cells numbers → rows_of units cells numbers ≡ rows
      → u < length rows → j < length (get_or rows u []) → IsPlace numbers u j
  in_range numbers rows u j are same here in_row =
      let g = rows_grid numbers in
      let unit : u < units = omega (arith, ap length same, g.size) in
      let cell : j < cells = omega (arith, ap (λ r. length (get_or r u [])) same, g.sizes u unit) in
      record { unit = unit; cell = cell; below = place_lt u j (length numbers) are.size unit cell }

  -- one of them is changed
  pub rows_changed : (numbers : List ℕ) (u j n : ℕ) → length numbers ≡ units * cells → u < units → j < cells
      → rows_of units cells (set numbers (u * cells + j) n) ≡ with_count (rows_of units cells numbers) u j n
  rows_changed numbers u j n size here in_row =
      let g = rows_grid numbers in
      sym (grid_is (with_count (rows_of units cells numbers) u j n) (λ v i. get_or (set numbers (u * cells + j) n) (v * cells + i) 0) (grid_changed (rows_of units cells numbers) g u j n)
      (λ v i lv li. elim (cases_eq v u) [
        | inl e ↦ elim (cases_eq i j) [
          | inl f ↦
              ap (λ w. count_at (with_count (rows_of units cells numbers) u j n) w i) e ∙ ap (count_at (with_count (rows_of units cells numbers) u j n) u) f
              ∙ changed_here (rows_of units cells numbers) g u j n here in_row
              ∙ sym (ap (λ p. get_or (set numbers (u * cells + j) n) p 0) (ap (λ w. w * cells + i) e ∙ ap (λ k. u * cells + k) f)
              ∙ get_or-set_same numbers (u * cells + j) n 0 (place_lt u j (length numbers) size here in_row))
          | inr other ↦
              ap (λ w. count_at (with_count (rows_of units cells numbers) u j n) w i) e
              ∙ kept_cell (rows_of units cells numbers) g u j n i here other ∙ in_rows numbers u i here li
              ∙ sym (ap (λ w. get_or (set numbers (u * cells + j) n) (w * cells + i) 0) e
              ∙ get_or-set_other numbers (u * cells + j) (u * cells + i) n 0 (λ same. other (same_from_place u i u j cells li in_row same).1))
        ]
        | inr other ↦
            kept_unit (rows_of units cells numbers) g u j n v i other ∙ in_rows numbers v i lv li
            ∙ sym (get_or-set_other numbers (u * cells + j) (v * cells + i) n 0 (λ same. other (same_from_place v i u j cells li in_row same).0))
      ]))

  pub are_rows_changed : (numbers : List ℕ) (place n : ℕ) → AreRows units cells numbers → n ≤ persons_limit → AreRows units cells (set numbers place n)
  are_rows_changed numbers place n rows few = record {
    size = length-set numbers place n ∙ rows.size;
    few = All-set (λ m. m ≤ persons_limit) numbers place n few rows.few;
  }

  pub are_rows_zero : (size : ℕ) → size ≡ units * cells → AreRows units cells (replicate size 0)
  are_rows_zero size size_is = record {
    size = length-replicate size 0 ∙ size_is;
    few = All-replicate (λ m. m ≤ persons_limit) size 0 (omega arith);
  }

  pub rows_zero : (size : ℕ) → size ≡ units * cells → rows_of units cells (replicate size 0) ≡ grid units cells (λ u j. 0)
  rows_zero size size_is =
      grid_is (rows_of units cells (replicate size 0)) (λ u j. 0) (rows_grid (replicate size 0))
      (λ u j here in_row. in_rows (replicate size 0) u j here in_row ∙ get_or-replicate size (u * cells + j) 0 0 (place_lt u j size size_is here in_row))

-- counts of a schema and a spine
module _ (s : Schema) (sp : Spine) where
  pub grid_of : (counts : Counts) → AreCountsOf s sp counts → IsGrid (length sp.units) (cell_count s) counts
  grid_of counts are = record { size = are.units; sizes = λ u here. are.cells u [] (omega (arith, are.units)) }

  pub counts_grid : (x : Tables) → IsGrid (length sp.units) (cell_count s) (counts_of s sp x)
  counts_grid x = is_grid (length sp.units) (cell_count s) x

  pub grid_counts : (counts : Counts) → IsGrid (length sp.units) (cell_count s) counts → AreCountsOf s sp counts
  grid_counts counts g = record {
    units = g.size;
    cells = λ u d within. ap length (get_or_default counts u d [] within) ∙ g.sizes u (omega (arith, g.size));
  }

  pub counts_are : (x : Tables) → AreCountsOf s sp (counts_of s sp x)
  counts_are x = grid_counts (counts_of s sp x) (counts_grid x)

  pub count_of : (x : Tables) (u j : ℕ) → u < length sp.units → j < cell_count s → count_at (counts_of s sp x) u j ≡ x u j
  count_of x = number_in (length sp.units) (cell_count s) x

  pub counts_by : (counts : Counts) (x : Tables) → AreCountsOf s sp counts
      → ((u j : ℕ) → u < length sp.units → j < cell_count s → count_at counts u j ≡ x u j) → counts ≡ counts_of s sp x
  counts_by counts x are same = grid_is (length sp.units) (cell_count s) counts x (grid_of counts are) same

  pub counts_zero : (units cells : ℕ) (numbers : List ℕ) → units ≡ length sp.units → cells ≡ cell_count s → numbers ≡ replicate (units * cells) 0
      → rows_of units cells numbers ≡ counts_of s sp (λ u j. 0)
  counts_zero units cells numbers units_are cells_are zeros =
      ap (rows_of units cells) zeros ∙ rows_zero units cells (units * cells) refl
      ∙ ap (λ n. grid n cells (λ u j. 0)) units_are ∙ ap (λ n. grid (length sp.units) n (λ u j. 0)) cells_are

  -- units and cells have counts
  pub in_counts : (counts : Counts) (u j : ℕ) → AreCountsOf s sp counts → u < length sp.units → j < cell_count s
      → (u < length counts) × (j < length (get_or counts u []))
  in_counts counts u j are here in_row =
      let g = grid_of counts are in
      (omega (arith, g.size), omega (arith, g.sizes u here))

  pub counts_changed : (counts : Counts) (u j n : ℕ) → AreCountsOf s sp counts → AreCountsOf s sp (with_count counts u j n)
  counts_changed counts u j n are =
      grid_counts (with_count counts u j n) (grid_changed (length sp.units) (cell_count s) counts (grid_of counts are) u j n)
