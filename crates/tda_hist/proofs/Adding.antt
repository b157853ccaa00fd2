-- Tables of units, from the blocks up to the nation.
use Rattle.std.proofs.Common.{◌≡◌, ◌≢◌, ℕ, ◌+◌, ◌-◌, ◌<◌, ◌≤◌, [], length, get_or, drop, sym, ap, ◌∙◌, subst, inl, inr, arith, sum_by}
use Rattle.std.proofs.lemmas.Bool.{cases_eq}
use Rattle.std.proofs.lemmas.List.{drop_more}
use Rattle.std.proofs.lemmas.List.Elements.{All-from_recursion}
use Rattle.std.proofs.Math.ListN.{drop_of_length-le}
use Rattle.tda_model.specs.Schema.{Schema}
use Rattle.tda_model.specs.Cells.{cell_count}
use Rattle.tda_model.specs.Spine.{Spine, level_of, is_child, children_of, unit_numbers, nation_of, parents_of, IsUnit, HasParent, IsTree}
use Rattle.tda_model.specs.Tables.{Table, Tables}
use Rattle.tda_model.proofs.Sums.{Each, sum_same, each_weaker, each_filter, each_range}
use Rattle.tda_model.proofs.Tree.{child_tells}
use Rattle.tda_spine.specs.Sound.{IsInner}
use Rattle.tda_spine.proofs.FitOrder.{parents_inner, each_inner}
use Rattle.tda_invar.proofs.FitOrder.{child_later}
use Rattle.tda_out.specs.Counts.{Counts, count_at, counts_of, with_count, AreCountsOf}
use Rattle.tda_out.proofs.RowLemmas.{counts_by, in_counts, counts_changed, grid_of, changed_here, kept_unit, kept_cell}
use Rattle.tda_invar.proofs.UnitLists.{children_within}
use Rattle.tda_hist.specs.Tally.{HasTable}

module _ (s : Schema) (sp : Spine) (x : Tables) where
  -- the counts of a unit are those of x
  abbrev pub IsTable : Counts → ℕ → Type 0
  IsTable counts u = (j : ℕ) → j < cell_count s → count_at counts u j ≡ x u j

  -- those of the blocks are, and those of the parents from a place on
  pub record AreAdded (place : ℕ) (counts : Counts) : Type 0 where
    pub counted : AreCountsOf s sp counts
    pub blocks : (b : ℕ) → IsUnit sp b → level_of sp b ≡ sp.depth - 1 → IsTable counts b
    pub done : Each (IsTable counts) (drop place (parents_of sp))

  pub added_start : (counts : Counts) → AreCountsOf s sp counts → ((b : ℕ) → IsUnit sp b → level_of sp b ≡ sp.depth - 1 → IsTable counts b) → AreAdded (length (parents_of sp)) counts
  added_start counts are blocks = record {
    counted = are;
    blocks = blocks;
    done = subst (Each (IsTable counts)) (sym (drop_of_length-le (parents_of sp) (omega arith))) tt;
  }

  module _ (t : IsTree sp (nation_of sp)) (split : (u : ℕ) → IsInner sp u → (j : ℕ) → x u j ≡ sum_by (λ c. x c j) (children_of sp u)) where
    module _ (place : ℕ) (some : 0 < place) (within : place ≤ length (parents_of sp)) (counts : Counts) (h : AreAdded place counts) where
      abbrev parent : ℕ
      parent = get_or (parents_of sp) (place - 1) 0

      parent_inner : IsInner sp parent
      parent_inner = All-from_recursion (IsInner sp) (parents_of sp) (parents_inner sp t) (place - 1) 0 (omega arith)

      pub parent_here : IsUnit sp parent
      parent_here = parent_inner.here

      done_after : Each (IsTable counts) (drop (place - 1 + 1) (parents_of sp))
      done_after = let back : place - 1 + 1 ≡ place = omega arith in subst (λ n. Each (IsTable counts) (drop n (parents_of sp))) (sym back) h.done

      child_table : (c : ℕ) → IsUnit sp c → HasParent sp c parent → IsTable counts c
      child_table c here up = elim (cases_eq (level_of sp c) (sp.depth - 1)) [
        | inl last ↦ h.blocks c here last
        | inr above ↦ λ j l. elim (cases_eq (count_at counts c j) (x c j)) [
          | inl same ↦ same
          | inr differ ↦
              let deep = t.within c here in
              let inner : IsInner sp c = record { here = here; above = omega arith } in
              let P : ℕ → Type 0 = λ v. count_at counts v j ≡ x v j in
              absurd (child_later sp t (place - 1) (omega arith) c inner up
              (each_weaker (IsTable counts) (λ v. v ≢ c) (drop (place - 1 + 1) (parents_of sp)) (λ v is same. differ (subst P same (is j l))) done_after))
        ]
      ]

      children_tables : Each (IsTable counts) (children_of sp parent)
      children_tables =
          each_filter (IsTable counts) (is_child sp parent) (unit_numbers sp) (each_range _ 0 (length sp.units) (λ c from to is.
          let here : IsUnit sp c = omega arith in child_table c here (child_tells sp (nation_of sp) t parent c here is)))

      -- its children together have the parent's count
      pub children_sum : (j : ℕ) → j < cell_count s → sum_by (λ c. count_at counts c j) (children_of sp parent) ≡ x parent j
      children_sum j l =
          sum_same (λ c. count_at counts c j) (λ c. x c j) (children_of sp parent)
          (each_weaker (IsTable counts) (λ c. count_at counts c j ≡ x c j) (children_of sp parent) (λ c is. is j l) children_tables)
          ∙ sym (split parent parent_inner j)

      -- one parent more
      pub added_more : (new : Counts) → HasTable s sp counts new parent (cell_count s) (λ j. sum_by (λ c. count_at counts c j) (children_of sp parent)) → AreAdded (place - 1) new
      added_more new row = record {
        counted = row.counts;
        blocks = λ b here at. keeps b (h.blocks b here at);
        done = subst (Each (IsTable new)) (sym (drop_more (parents_of sp) (place - 1) 0 (omega arith))) (own, each_weaker (IsTable counts) (IsTable new) (drop (place - 1 + 1) (parents_of sp)) keeps done_after);
      }
        where
          own : IsTable new parent
          own j l = row.own j l ∙ children_sum j l

          keeps : (v : ℕ) → IsTable counts v → IsTable new v
          keeps v is = elim (cases_eq v parent) [
            | inl same ↦ subst (IsTable new) (sym same) own
            | inr other ↦ λ j l. row.others v j (λ e _. other e) ∙ is j l
          ]

    -- in the end all counts are
    pub added_all : (counts : Counts) → AreAdded 0 counts → counts ≡ counts_of s sp x
    added_all counts h = counts_by s sp counts x h.counted (λ u j here l. each u here j l)
      where
        each : (u : ℕ) → IsUnit sp u → IsTable counts u
        each u here = elim (cases_eq (level_of sp u) (sp.depth - 1)) [
          | inl last ↦ h.blocks u here last
          | inr above ↦
              let within = t.within u here in
              each_inner sp t (IsTable counts) h.done u (record { here = here; above = omega arith })
        ]

module _ (s : Schema) (sp : Spine) where
  -- there is a count for each child and cell
  pub children_places : (u : ℕ) (counts : Counts) → AreCountsOf s sp counts → (j : ℕ) → j < cell_count s
      → (k d : ℕ) → k < length (children_of sp u) → (get_or (children_of sp u) k d < length counts) × (j < length (get_or counts (get_or (children_of sp u) k d) []))
  children_places u counts are j l k d within = in_counts s sp counts (get_or (children_of sp u) k d) j are (children_within sp u k d within) l

  -- the children of a unit keep their counts while its own are changed
  pub same_children : IsTree sp (nation_of sp) → (u : ℕ) → IsUnit sp u → (old new : Counts) (n : ℕ) (x : Table) → HasTable s sp old new u n x
      → (j : ℕ) → sum_by (λ c. count_at new c j) (children_of sp u) ≡ sum_by (λ c. count_at old c j) (children_of sp u)
  same_children t u here old new n x h j =
      sum_same (λ c. count_at new c j) (λ c. count_at old c j) (children_of sp u)
      (each_filter _ (is_child sp u) (unit_numbers sp) (each_range _ 0 (length sp.units) (λ c from to is.
      let in_c : IsUnit sp c = omega arith in
      let up = child_tells sp (nation_of sp) t u c in_c is in
      let above : level_of sp c ≡ level_of sp u + 1 = up.above in
      h.others c j (λ same _. let level = ap (level_of sp) same in omega arith))))

  -- one cell more
  pub row_more : (old counts new : Counts) (u : ℕ) → u < length sp.units → (n : ℕ) → n < cell_count s → (count : ℕ) (x : Table)
      → HasTable s sp old counts u n x → new ≡ with_count counts u n count → count ≡ x n → HasTable s sp old new u (n + 1) x
  row_more old counts new u here n l count x h is count_is =
      let g = grid_of s sp counts h.counts in
      record {
        counts = subst (AreCountsOf s sp) (sym is) (counts_changed s sp counts u n count h.counts);
        own = λ j below. ap (λ c. count_at c u j) is ∙ elim (cases_eq j n) [
          | inl e ↦
              ap (count_at (with_count counts u n count) u) e ∙ changed_here (length sp.units) (cell_count s) counts g u n count here l ∙ count_is ∙ ap x (sym e)
          | inr other ↦ kept_cell (length sp.units) (cell_count s) counts g u n count j here other ∙ h.own j (omega arith)
        ];
        others = λ v j apart. ap (λ c. count_at c v j) is ∙ elim (cases_eq v u) [
          | inl e ↦ elim (cases_eq j n) [
            | inl d ↦ absurd (apart e (omega arith))
            | inr other ↦
                ap (λ w. count_at (with_count counts u n count) w j) e ∙ kept_cell (length sp.units) (cell_count s) counts g u n count j here other
                ∙ sym (ap (λ w. count_at counts w j) e) ∙ h.others v j (λ same below. apart same (omega arith))
          ]
          | inr other ↦ kept_unit (length sp.units) (cell_count s) counts g u n count v j other ∙ h.others v j (λ same below. other same)
        ];
      }
