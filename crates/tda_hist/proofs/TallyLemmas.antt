-- Counts to which one is added for each record.
use Rattle.std.proofs.Common.{◌≡◌, ◌≢◌, ℕ, ◌+◌, ◌<◌, ◌≤◌, ◌^◌, true, ◌&&◌, ◌==◌, List, [], length, get_or, take, sym, ap, ◌∙◌, inl, inr, arith, ne_eqb, eq-eqb}
use Rattle.std.proofs.lemmas.Bool.{cases_eq}
use Rattle.std.proofs.lemmas.List.Sums.{count_by-le-length}
use Rattle.std.proofs.lemmas.List.{length-take-le, take_all}
use Rattle.tda_model.specs.Bounds.{persons_limit}
use Rattle.tda_model.specs.Schema.{Schema}
use Rattle.tda_model.specs.Cells.{cell_count, is_possible}
use Rattle.tda_model.specs.Spine.{Spine}
use Rattle.tda_model.specs.Tables.{Tables}
use Rattle.tda_out.specs.Counts.{Counts, count_at, counts_of, with_count, AreCountsOf}
use Rattle.tda_out.proofs.RowLemmas.{counts_are, count_of, counts_by, in_counts, counts_changed, grid_of, changed_here, kept_unit, kept_cell}
use Rattle.tda_records.specs.Records.{record_at, block_at, cell_at, IsBlock, AreRecordsOf}
use Rattle.tda_schema.proofs.WholeLemmas.{cell_of_possible}
use Rattle.tda_records.specs.declared.records.Record.{Record}
use Rattle.tda_spine.proofs.Numbers.{count_more}
use Rattle.tda_hist.specs.Tally.{tallied}
use Rattle.tda_hist.proofs.CountLemmas.{one_if}

module _ (s : Schema) (sp : Spine) (f g : Record → ℕ) (records : List Record) where
  -- the first records are counted
  abbrev pub AreTallied : ℕ → Counts → Type 0
  AreTallied i counts = counts ≡ counts_of s sp (tallied f g (take i records))

  -- all of them
  pub tally_all : (i : ℕ) → length records ≤ i → (counts : Counts) → AreTallied i counts → counts ≡ counts_of s sp (tallied f g records)
  tally_all i all counts h = h ∙ ap (λ rs. counts_of s sp (tallied f g rs)) (take_all i records all)

  module _ (i : ℕ) (below : i < length records) (counts : Counts) (h : AreTallied i counts) (u j : ℕ) (here : u < length sp.units) (in_row : j < cell_count s) where
    abbrev before : Tables
    before = tallied f g (take i records)

    abbrev after : Tables
    after = tallied f g (take (i + 1) records)

    abbrev record_here : Record
    record_here = record_at records i

    are : AreCountsOf s sp counts
    are = rw h (counts_are s sp before)

    number_at : (v k : ℕ) → v < length sp.units → k < cell_count s → count_at counts v k ≡ before v k
    number_at v k lv lk = ap (λ c. count_at c v k) h ∙ count_of s sp before v k lv lk

    -- there is a count for the unit and the cell, and room for one more
    pub tally_place : (u < length counts) × (j < length (get_or counts u []))
    tally_place = in_counts s sp counts u j are here in_row

    pub tally_room : length records ≤ 2 ^ 26 → count_at counts u j < persons_limit
    tally_room few =
        let is = number_at u j here in_row in
        let le = count_by-le-length (λ r. (f r == u) && (g r == j)) (take i records) in
        let size = length-take-le i records (omega arith) in
        omega (arith, is, le, size)

    more : (v k : ℕ) → after v k ≡ before v k + one_if ((f record_here == v) && (g record_here == k))
    more v k = count_more (λ r. (f r == v) && (g r == k)) records i (record { block = 0; cell = 0 }) below

    -- one is added for the record at the place
    pub tally_more : u ≡ f record_here → j ≡ g record_here → AreTallied (i + 1) (with_count counts u j (count_at counts u j + 1))
    tally_more is_u is_j =
        let n = count_at counts u j + 1 in
        let g_of = grid_of s sp counts are in
        let changed = with_count counts u j n in
        counts_by s sp changed after (counts_changed s sp counts u j n are)
        (λ v k lv lk. elim (cases_eq v u) [
          | inl e ↦ elim (cases_eq k j) [
            | inl d ↦
                ap (λ w. count_at changed w k) e ∙ ap (count_at changed u) d
                ∙ changed_here (length sp.units) (cell_count s) counts g_of u j n here in_row
                ∙ ap (λ m. m + 1) (number_at u j here in_row)
                ∙ sym added
                ∙ sym (ap (λ w. after w k) e ∙ ap (after u) d)
            | inr other ↦
                ap (λ w. count_at changed w k) e
                ∙ kept_cell (length sp.units) (cell_count s) counts g_of u j n k here other
                ∙ number_at u k here lk
                ∙ sym (no_cell k other)
                ∙ sym (ap (λ w. after w k) e)
          ]
          | inr other ↦ kept_unit (length sp.units) (cell_count s) counts g_of u j n v k other ∙ number_at v k lv lk ∙ sym (no_unit v k other)
        ])
      where
        added : after u j ≡ before u j + 1
        added =
            more u j ∙ ap (λ b. before u j + one_if (b && (g record_here == j))) (eq-eqb (f record_here) u (sym is_u))
            ∙ ap (λ b. before u j + one_if b) (eq-eqb (g record_here) j (sym is_j))

        no_cell : (k : ℕ) → k ≢ j → after u k ≡ before u k
        no_cell k other =
            more u k ∙ ap (λ b. before u k + one_if (b && (g record_here == k))) (eq-eqb (f record_here) u (sym is_u))
            ∙ ap (λ b. before u k + one_if b) (ne_eqb (g record_here) k (λ e. other (sym e ∙ sym is_j))) ∙ omega arith

        no_unit : (v k : ℕ) → v ≢ u → after v k ≡ before v k
        no_unit v k other =
            more v k ∙ ap (λ b. before v k + one_if (b && (g record_here == k))) (ne_eqb (f record_here) v (λ e. other (sym e ∙ sym is_u))) ∙ omega arith

-- each record has a unit and a cell
pub record IsPlaced (s : Schema) (sp : Spine) (b j : ℕ) : Type 0 where
  pub block : IsBlock sp b
  pub possible : is_possible s j ≡ true
  pub in_row : j < cell_count s

pub placed : (s : Schema) (sp : Spine) (records : List Record) → AreRecordsOf s sp records → (i : ℕ) → i < length records → IsPlaced s sp (block_at records i) (cell_at records i)
placed s sp records are i below =
    let r = are.each i (record { block = 0; cell = 0 }) below in
    record { block = r.block; possible = r.possible; in_row = cell_of_possible s (cell_at records i) r.possible }
