-- The counts that are made of records.
use Rattle.std.proofs.Common.{◌≡◌, ℕ, ◌-◌, ◌<◌, ◌≤◌, ◌^◌, ◌&&◌, ◌==◌, List, [], length, cond, sym, ap, ◌∙◌, subst, arith, sum, count_by}
use Rattle.std.proofs.lemmas.List.Sums.{count_by-le-length, sum-map}
use Rattle.tda_model.specs.Bounds.{persons_limit}
use Rattle.tda_model.specs.Schema.{Query, Schema}
use Rattle.tda_model.specs.Groups.{class_cells}
use Rattle.tda_model.specs.Cells.{cell_count, all_cells}
use Rattle.tda_model.specs.Spine.{Spine, is_at, blocks_of, units_at, unit_numbers, nation_of, parents_of, IsUnit, IsTree}
use Rattle.tda_model.specs.Tables.{Tables, persons_in}
use Rattle.tda_model.proofs.Sums.{sum_same, each_range, each_filter}
use Rattle.tda_model.proofs.Tree.{each_under}
use Rattle.tda_out.specs.Counts.{Counts, count_at, counts_of, AreCountsOf}
use Rattle.tda_out.proofs.RowLemmas.{counts_are, count_of}
use Rattle.tda_schema.specs.Parts.{holds}
use Rattle.tda_records.specs.Records.{AreRecordsOf}
use Rattle.tda_records.specs.declared.records.Record.{Record}
use Rattle.tda_hist.specs.TrueTable.{lives_in, true_count, class_persons, class_sum, state_persons, persons_at, BlocksAddUp}
use Rattle.tda_hist.specs.Tally.{tallied}
use Rattle.tda_hist.proofs.Adding.{AreAdded, added_start}
use Rattle.tda_hist.proofs.TrueCounts.{own_true, true_blocks, persons_are, persons_of_nation, persons_of_level, class_adds}
use Rattle.tda_hist.proofs.ClassCells.{class_by_cells}

pub counted_limit : (sp : Spine) (records : List Record) → length records ≤ 2 ^ 26 → (u j : ℕ) → true_count sp records u j ≤ persons_limit
counted_limit sp records few u j = omega (arith, count_by-le-length (λ r. lives_in sp u r && (r.cell == j)) records, few)

module _ (s : Schema) (sp : Spine) where
  -- sums over the cells of counts that are those of a table
  pub same_persons : (x : Tables) (counts : Counts) → counts ≡ counts_of s sp x → (u : ℕ) → IsUnit sp u → persons_in s (count_at counts u) ≡ persons_in s (x u)
  same_persons x counts is u here =
      sum_same (count_at counts u) (x u) (all_cells s) (each_range _ 0 (cell_count s) (λ j low high. ap (λ c. count_at c u j) is ∙ count_of s sp x u j here (omega arith)))

  module _ (t : IsTree sp (nation_of sp)) (records : List Record) (are : AreRecordsOf s sp records) (counts : Counts) where
    pub counted_start : counts ≡ counts_of s sp (tallied (λ r. r.block) (λ r. r.cell) records) → AreAdded s sp (true_count sp records) (length (parents_of sp)) counts
    counted_start is =
        let own = tallied (λ r. r.block) (λ r. r.cell) records in
        added_start s sp (true_count sp records) counts (subst (AreCountsOf s sp) (sym is) (counts_are s sp own))
        (λ b here at j l. ap (λ c. count_at c b j) is ∙ count_of s sp own b j here l ∙ own_true sp t records s are b at j)

    module _ (is : counts ≡ counts_of s sp (true_count sp records)) where
      pub counted_blocks : BlocksAddUp s sp (count_at counts)
      counted_blocks u here j l =
          ap (λ c. count_at c u j) is ∙ count_of s sp (true_count sp records) u j here l
          ∙ true_blocks sp t records s are u here j l
          ∙ sum_same (λ b. true_count sp records b j) (λ b. count_at counts b j) (blocks_of sp u)
          (each_under sp (nation_of sp) t (λ b. true_count sp records b j ≡ count_at counts b j) (sp.depth - 1) u
          (λ b under. sym (ap (λ c. count_at c b j) is ∙ count_of s sp (true_count sp records) b j under.here l)))

      pub counted_persons : (u : ℕ) → IsUnit sp u → persons_in s (count_at counts u) ≡ count_by (lives_in sp u) records
      counted_persons u here = same_persons (true_count sp records) counts is u here ∙ persons_are sp t records s are u

      pub counted_in_nation : persons_in s (count_at counts (nation_of sp)) ≡ length records
      counted_in_nation = same_persons (true_count sp records) counts is (nation_of sp) t.root ∙ persons_of_nation sp t records s are

      pub counted_at_level : (level : ℕ) → level < sp.depth → persons_at s sp (count_at counts) level ≡ length records
      counted_at_level level within =
          let x = true_count sp records in
          sum_same (λ u. persons_in s (count_at counts u)) (λ u. persons_in s (x u)) (units_at sp level)
          (each_filter _ (is_at sp level) (unit_numbers sp) (each_range _ 0 (length sp.units) (λ u low high at. same_persons x counts is u (omega arith))))
          ∙ persons_of_level sp t records s are level within

      pub counted_in_states : sum (state_persons s sp (count_at counts)) ≡ length records
      counted_in_states = sum-map (λ st. persons_in s (count_at counts st)) (units_at sp 1) ∙ counted_at_level 1 (omega (arith, t.deep))

  -- of true counts the sum over a class is how many persons of the class there are
  pub counted_class : (q : Query) → q.only ≡ [] → (records : List Record) (counts : Counts) → counts ≡ counts_of s sp (true_count sp records) → (u c : ℕ) → IsUnit sp u
      → class_sum s q (count_at counts u) c ≡ class_persons s sp q records u c
  counted_class q whole records counts is u c here =
      let x = true_count sp records u in
      let cells = class_cells s q c in
      class_by_cells s q whole (count_at counts u) c
      ∙ sum_same (λ j. cond (holds cells j) (count_at counts u j) 0) (λ j. cond (holds cells j) (x j) 0) (all_cells s)
      (each_range _ 0 (cell_count s) (λ j low high. ap (λ n. cond (holds cells j) n 0) (ap (λ k. count_at k u j) is ∙ count_of s sp (true_count sp records) u j here (omega arith))))
      ∙ sym (class_by_cells s q whole x c)
      ∙ sym (class_adds s sp q whole records u c)
