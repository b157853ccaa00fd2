-- The true table of a unit is those of its blocks together, and those of its children, and counts each person who lives there once.
use Rattle.std.proofs.Common.{◌≡◌, ℕ, ◌+◌, ◌-◌, ◌<◌, Bool, true, false, ◌&&◌, ◌==◌, List, [], length, refl, sym, ap, ◌∙◌, arith, sum_by, count_by}
use Rattle.std.proofs.lemmas.List.Elements.{recursion_from_All}
use Rattle.tda_model.specs.Schema.{Query, Schema}
use Rattle.tda_model.specs.Groups.{class_cells}
use Rattle.tda_model.specs.Cells.{cell_count, all_cells}
use Rattle.tda_model.specs.Spine.{Spine, level_of, children_of, blocks_of, units_at, nation_of, IsTree}
use Rattle.tda_model.specs.Tables.{Tables, persons_in}
use Rattle.tda_model.proofs.Sums.{Each, sum_same, sum_swap, each_weaker, range_ascends}
use Rattle.tda_model.proofs.Tree.{each_under, under_ascends, blocks_split, over_is}
use Rattle.tda_spine.specs.Sound.{IsInner}
use Rattle.tda_schema.specs.Parts.{holds}
use Rattle.tda_schema.proofs.WholeLemmas.{cell_of_possible}
use Rattle.tda_records.specs.Records.{IsRecordOf, AreRecordsOf}
use Rattle.tda_records.specs.declared.records.Record.{Record}
use Rattle.tda_hist.specs.TrueTable.{lives_in, true_count, class_persons, class_sum, persons_at, BlocksAddUp}
use Rattle.tda_hist.specs.Tally.{tallied}
use Rattle.tda_hist.proofs.CountLemmas.{one_if, turned, sums_same, sum_ones, count_by_number, count_by_number_last}
use Rattle.tda_hist.proofs.ClassCells.{class_ascends}
use Rattle.tda_hist.proofs.Living.{holds_range, holds_over, one_there, lives_in_nation}

module _ (sp : Spine) (t : IsTree sp (nation_of sp)) (records : List Record) where
  -- the records of a block itself
  abbrev own : Tables
  own = tallied (λ r. r.block) (λ r. r.cell) records

  pub by_blocks : (u j : ℕ) → true_count sp records u j ≡ sum_by (λ b. own b j) (blocks_of sp u)
  by_blocks u j = count_by_number (λ r. r.block) (λ r. r.cell == j) (blocks_of sp u) (under_ascends sp (nation_of sp) t (sp.depth - 1) u) records

  pub true_split : (u : ℕ) → IsInner sp u → (j : ℕ) → true_count sp records u j ≡ sum_by (λ c. true_count sp records c j) (children_of sp u)
  true_split u inner j =
      by_blocks u j ∙ blocks_split sp (nation_of sp) t (λ b. own b j) u inner.here inner.above
      ∙ sums_same (λ c. sum_by (λ b. own b j) (blocks_of sp c)) (λ c. true_count sp records c j) (children_of sp u) (λ c. sym (by_blocks c j))

  module _ (s : Schema) (are : AreRecordsOf s sp records) where
    each_is : Each (IsRecordOf s sp) records
    each_is = recursion_from_All (IsRecordOf s sp) records are.each

    -- in a block live those whose block it is
    pub own_true : (b : ℕ) → level_of sp b ≡ sp.depth - 1 → (j : ℕ) → own b j ≡ true_count sp records b j
    own_true b at j =
        sum_same (λ r. one_if ((r.block == b) && (r.cell == j))) (λ r. one_if (lives_in sp b r && (r.cell == j))) records
        (each_weaker (IsRecordOf s sp) (λ r. one_if ((r.block == b) && (r.cell == j)) ≡ one_if (lives_in sp b r && (r.cell == j))) records
        (λ r is. ap (λ h. one_if (h && (r.cell == j)))
        (turned r.block b ∙ sym (holds_over sp t b r.block is.block.here is.block.last ∙ over_is sp (nation_of sp) t b r.block 0 sp.depth is.block.here (let level : level_of sp r.block ≡ 0 + level_of sp b = omega (arith, is.block.last, at) in level) (omega arith)))) each_is)

    pub true_blocks : BlocksAddUp s sp (true_count sp records)
    true_blocks u here j within =
        by_blocks u j
        ∙ sum_same (λ b. own b j) (λ b. true_count sp records b j) (blocks_of sp u)
        (each_under sp (nation_of sp) t (λ b. own b j ≡ true_count sp records b j) (sp.depth - 1) u (λ b under. own_true b under.at j))

    -- each person of a unit counts in one cell
    pub persons_are : (u : ℕ) → persons_in s (true_count sp records u) ≡ count_by (lives_in sp u) records
    persons_are u =
        sym (count_by_number_last (λ r. r.cell) (lives_in sp u) (all_cells s) (range_ascends 0 (cell_count s)) records)
        ∙ sum_same (λ r. one_if (lives_in sp u r && holds (all_cells s) r.cell)) (λ r. one_if (lives_in sp u r)) records
        (each_weaker (IsRecordOf s sp) (λ r. one_if (lives_in sp u r && holds (all_cells s) r.cell) ≡ one_if (lives_in sp u r)) records
        (λ r is. counted (lives_in sp u r) (holds (all_cells s) r.cell) (holds_range 0 (cell_count s) r.cell (omega arith) (omega (arith, cell_of_possible s r.cell is.possible)))) each_is)
      where
        counted : (b h : Bool) → h ≡ true → one_if (b && h) ≡ one_if b
        counted true h is = ap one_if is
        counted false h is = refl

    -- all persons live in the nation
    pub persons_of_nation : persons_in s (true_count sp records (nation_of sp)) ≡ length records
    persons_of_nation =
        persons_are (nation_of sp)
        ∙ sum_same (λ r. one_if (lives_in sp (nation_of sp) r)) (λ r. 1) records
        (each_weaker (IsRecordOf s sp) (λ r. one_if (lives_in sp (nation_of sp) r) ≡ 1) records
        (λ r is. ap one_if (lives_in_nation sp t r.block is.block.here is.block.last)) each_is)
        ∙ sum_ones records

    -- and each in one unit of a level
    pub persons_of_level : (level : ℕ) → level < sp.depth → persons_at s sp (true_count sp records) level ≡ length records
    persons_of_level level within =
        sums_same (λ u. persons_in s (true_count sp records u)) (λ u. count_by (lives_in sp u) records) (units_at sp level) persons_are
        ∙ sum_swap (λ u r. one_if (lives_in sp u r)) (units_at sp level) records
        ∙ sum_same (λ r. sum_by (λ u. one_if (lives_in sp u r)) (units_at sp level)) (λ r. 1) records
        (each_weaker (IsRecordOf s sp) (λ r. sum_by (λ u. one_if (lives_in sp u r)) (units_at sp level) ≡ 1) records
        (λ r is. one_there sp t r.block level is.block.here is.block.last within) each_is)
        ∙ sum_ones records

-- the count of a class is the sum of the true counts over its cells
pub class_adds : (s : Schema) (sp : Spine) (q : Query) → q.only ≡ [] → (records : List Record) (u c : ℕ) → class_persons s sp q records u c ≡ class_sum s q (true_count sp records u) c
class_adds s sp q whole records u c = count_by_number_last (λ r. r.cell) (λ r. lives_in sp u r) (class_cells s q c) (class_ascends s q whole c) records
