-- How far apart the answers are of lists of records: a record counts once, so that one replaced makes two steps at most.
use Rattle.std.proofs.Common.{◌≡◌, ℕ, ◌+◌, ◌-◌, ◌*◌, ◌<◌, ◌≤◌, ◌^◌, Bool, true, false, ◌&&◌, ◌==◌, List, [], length, get_or, set, All, sym, ap, ◌∙◌, subst, inl, inr, arith, sum_by, count_by}
use Rattle.std.proofs.lemmas.Bool.{cases_eq, cases_lt, eqb-true}
use Rattle.std.proofs.lemmas.List.{same_lists, length-set, get_or-set_same, get_or-set_other, get_or_default}
use Rattle.std.proofs.lemmas.List.Elements.{recursion_from_All, All-from_recursion}
use Rattle.std.proofs.lemmas.List.Sums.{sum_by-set, count_by-le-length}
use Rattle.tda_model.specs.Schema.{Query, Schema}
use Rattle.tda_model.specs.Cells.{cell_count}
use Rattle.tda_model.specs.Groups.{class_cells, classes_of}
use Rattle.tda_model.specs.Spine.{Spine, level_of, is_at, is_over, units_at, unit_numbers, nation_of, IsUnit, IsTree}
use Rattle.tda_model.proofs.Sums.{sum_same, sum_le, sum_add, sum_zero, each_any, each_weaker, each_both, each_range, each_filter}
use Rattle.tda_model.proofs.Tree.{up}
use Rattle.tda_out.specs.Counts.{Counts, count_at, counts_of, AreCountsOf}
use Rattle.tda_out.proofs.RowLemmas.{counts_are, count_of, grid_of}
use Rattle.tda_records.specs.Records.{record_at, block_at, cell_at, IsRecordOf, AreRecordsOf}
use Rattle.tda_records.specs.declared.records.Record.{Record}
use Rattle.tda_schema.specs.Parts.{holds}
use Rattle.tda_schema.specs.Stated.{class_of}
use Rattle.tda_hist.specs.TrueTable.{lives_in, class_persons}
use Rattle.tda_hist.specs.Tally.{tallied}
use Rattle.tda_hist.specs.Distance.{squared_gap, unit_gap, square_distance, AreNeighbours, AreClassCounts}
use Rattle.tda_hist.proofs.CountLemmas.{one_if, turned, sums_same, sum_scaled, one_pair, count_pairs, gap_of_two, gap_limited}
use Rattle.tda_hist.proofs.Living.{is_over_there, lives_there, one_there}
use Rattle.tda_hist.proofs.ClassCells.{IsClass, each_class, class_below, in_class, one_class_there}

-- neighbours are one list, or one with a record replaced
replaced : (first second : List Record) (n : AreNeighbours first second) → n.place < length first → second ≡ set first n.place (record_at second n.place)
replaced first second n below =
    let new = set first n.place (record_at second n.place) in
    same_lists second new (sym n.size ∙ sym (length-set first n.place (record_at second n.place))) (λ k d within.
    get_or_default second k d (record { block = 0; cell = 0 }) within
    ∙ elim (cases_eq k n.place) [
      | inl e ↦
          ap (record_at second) e ∙ sym (get_or-set_same first n.place (record_at second n.place) (record { block = 0; cell = 0 }) below)
          ∙ sym (ap (record_at new) e)
      | inr other ↦
          sym (n.others k (omega (arith, n.size, within)) other)
          ∙ sym (get_or-set_other first n.place k (record_at second n.place) (record { block = 0; cell = 0 }) other)
    ]
    ∙ sym (get_or_default new k d (record { block = 0; cell = 0 }) (omega (arith, n.size, within, length-set first n.place (record_at second n.place)))))

one_list : (first second : List Record) (n : AreNeighbours first second) → length first ≤ n.place → first ≡ second
one_list first second n past =
    same_lists first second n.size (λ k d within.
    get_or_default first k d (record { block = 0; cell = 0 }) within
    ∙ n.others k within (λ e. omega arith)
    ∙ sym (get_or_default second k d (record { block = 0; cell = 0 }) (omega (arith, n.size, within))))

module _ (s : Schema) (sp : Spine) (t : IsTree sp (nation_of sp)) (q : Query) (whole : q.only ≡ []) (level : ℕ) (within : level < sp.depth) where
  abbrev counts_there : ℕ → ℕ → Record → Bool
  counts_there u c r = lives_in sp u r && holds (class_cells s q c) r.cell

  -- a record counts at most once
  counts_once : (r : Record) → IsRecordOf s sp r → sum_by (λ u. sum_by (λ c. one_if (counts_there u c r)) (classes_of s q)) (units_at sp level) ≤ 1
  counts_once r is =
      one_pair (λ u. lives_in sp u r) (λ c. holds (class_cells s q c) r.cell) (units_at sp level) (classes_of s q)
      (let one = one_there sp t r.block level is.block.here is.block.last within in omega (arith, one)) (one_class_there s q whole r.cell is.possible)

  module _ (records : List Record) (are : AreRecordsOf s sp records) where
    count_total : sum_by (λ u. sum_by (class_persons s sp q records u) (classes_of s q)) (units_at sp level) ≤ length records
    count_total =
        count_pairs (λ u r. lives_in sp u r) (λ c r. holds (class_cells s q c) r.cell) (units_at sp level) (classes_of s q) records
        (each_weaker (IsRecordOf s sp) (λ r. sum_by (λ u. sum_by (λ c. one_if (counts_there u c r)) (classes_of s q)) (units_at sp level) ≤ 1) records counts_once
        (recursion_from_All (IsRecordOf s sp) records are.each))

    -- the unit over a block, as it is found
    pub unit_is : (r : Record) → IsRecordOf s sp r → (u : ℕ) → level_of sp u ≡ level → is_over sp u r.block sp.depth ≡ true → u ≡ up sp r.block (sp.depth - 1 - level)
    unit_is r is u at over = eqb-true u (up sp r.block (sp.depth - 1 - level)) (sym (is_over_there sp t r.block level is.block.here is.block.last within u at) ∙ over)

    -- the unit and the class that are found for a record
    pub record IsFound (r : Record) (u c : ℕ) : Type 0 where
      pub unit : u ≡ up sp r.block (sp.depth - 1 - level)
      pub class : c ≡ class_of s q r.cell
      pub below : c < cell_count s

    pub found : (i : ℕ) → i < length records → (block cell u c : ℕ) → block ≡ block_at records i → cell ≡ cell_at records i → level_of sp u ≡ level
        → is_over sp u block sp.depth ≡ true → c ≡ class_of s q cell → IsFound (record_at records i) u c
    found i below block cell u c block_is cell_is at over class_is =
        let r = record_at records i in
        let is = are.each i (record { block = 0; cell = 0 }) below in
        let class : c ≡ class_of s q r.cell = class_is ∙ ap (class_of s q) cell_is in
        record {
          unit = unit_is r is u at (sym (ap (λ b. is_over sp u b sp.depth) block_is) ∙ over);
          class = class;
          below = rw class (class_below s q whole r.cell is.possible);
        }

    -- counts by the unit over the block and by the class of the cell are those of the units and classes
    pub class_counts_are : (counts : Counts) → counts ≡ counts_of s sp (tallied (λ r. up sp r.block (sp.depth - 1 - level)) (λ r. class_of s q r.cell) records)
        → AreClassCounts s sp records level q counts
    class_counts_are counts is =
        let f : Record → ℕ = λ r. up sp r.block (sp.depth - 1 - level) in
        let g : Record → ℕ = λ r. class_of s q r.cell in
        record {
          are = subst (AreCountsOf s sp) (sym is) (counts_are s sp (tallied f g records));
          each =
              All-from_recursion (λ u. All (λ c. count_at counts u c ≡ class_persons s sp q records u c) (classes_of s q)) (units_at sp level)
              (each_filter _ (is_at sp level) (unit_numbers sp) (each_range _ 0 (length sp.units) (λ u low high at.
              All-from_recursion (λ c. count_at counts u c ≡ class_persons s sp q records u c) (classes_of s q)
              (each_weaker (IsClass s q whole) (λ c. count_at counts u c ≡ class_persons s sp q records u c) (classes_of s q)
              (λ c class. ap (λ x. count_at x u c) is ∙ count_of s sp (tallied f g records) u c (omega arith) class.below
              ∙ sum_same (λ r. one_if ((f r == u) && (g r == c))) (λ r. one_if (counts_there u c r)) records
              (each_weaker (IsRecordOf s sp) (λ r. one_if ((f r == u) && (g r == c)) ≡ one_if (counts_there u c r)) records
              (λ r own.
              ap (λ b. one_if (b && (g r == c))) (turned (f r) u ∙ sym (lives_there sp t r.block level own.block.here own.block.last within u (eqb-true (level_of sp u) level at)))
              ∙ ap (λ b. one_if (lives_in sp u r && b)) (sym (in_class s q whole r.cell c own.possible class.first class.possible)))
              (recursion_from_All (IsRecordOf s sp) records are.each)))
              (each_class s q whole)))));
        }

  module _ (first second : List Record) where
    abbrev gap : ℕ → ℕ → ℕ
    gap u c = squared_gap (class_persons s sp q first u c) (class_persons s sp q second u c)

    -- where each difference is within a bound their sum is within the bounds' sum
    distance_within : (bound : ℕ → ℕ → ℕ) → ((u c : ℕ) → gap u c ≤ bound u c)
        → square_distance s sp first second level q ≤ sum_by (λ u. sum_by (bound u) (classes_of s q)) (units_at sp level)
    distance_within bound le =
        sum_le (λ u. sum_by (gap u) (classes_of s q)) (λ u. sum_by (bound u) (classes_of s q)) (units_at sp level)
        (each_any (λ u. sum_by (gap u) (classes_of s q) ≤ sum_by (bound u) (classes_of s q)) (units_at sp level)
        (λ u. sum_le (gap u) (bound u) (classes_of s q) (each_any (λ c. gap u c ≤ bound u c) (classes_of s q) (le u))))

    both_sums : (f g : ℕ → ℕ → ℕ) → sum_by (λ u. sum_by (λ c. f u c + g u c) (classes_of s q)) (units_at sp level)
        ≡ sum_by (λ u. sum_by (f u) (classes_of s q)) (units_at sp level) + sum_by (λ u. sum_by (g u) (classes_of s q)) (units_at sp level)
    both_sums f g =
        sums_same (λ u. sum_by (λ c. f u c + g u c) (classes_of s q)) (λ u. sum_by (f u) (classes_of s q) + sum_by (g u) (classes_of s q)) (units_at sp level) (λ u. sum_add (f u) (g u) (classes_of s q))
        ∙ sum_add (λ u. sum_by (f u) (classes_of s q)) (λ u. sum_by (g u) (classes_of s q)) (units_at sp level)

    module _ (one : AreRecordsOf s sp first) (other : AreRecordsOf s sp second) where
      pub distance_limit : square_distance s sp first second level q ≤ 2 ^ 53
      distance_limit =
          let m : ℕ = 2 ^ 26 in
          let both : ℕ → ℕ → ℕ = λ u c. class_persons s sp q first u c + class_persons s sp q second u c in
          let le = distance_within (λ u c. m * both u c) (λ u c.
          let few_first = count_by-le-length (counts_there u c) first in
          let few_second = count_by-le-length (counts_there u c) second in
          gap_limited m (class_persons s sp q first u c) (class_persons s sp q second u c) (omega (arith, few_first, one.few)) (omega (arith, few_second, other.few))) in
          let scaled : sum_by (λ u. sum_by (λ c. m * both u c) (classes_of s q)) (units_at sp level) ≡ m * sum_by (λ u. sum_by (both u) (classes_of s q)) (units_at sp level) =
          sums_same (λ u. sum_by (λ c. m * both u c) (classes_of s q)) (λ u. m * sum_by (both u) (classes_of s q)) (units_at sp level) (λ u. sum_scaled m (both u) (classes_of s q))
          ∙ sum_scaled m (λ u. sum_by (both u) (classes_of s q)) (units_at sp level) in
          let split = both_sums (class_persons s sp q first) (class_persons s sp q second) in
          within_limit (sum_by (λ u. sum_by (both u) (classes_of s q)) (units_at sp level)) (square_distance s sp first second level q)
          (omega (arith, le, scaled)) (omega (arith, split, count_total first one, count_total second other, one.few, other.few))
        where
          within_limit : (n d : ℕ) → d ≤ 2 ^ 26 * n → n ≤ 2 ^ 27 → d ≤ 2 ^ 53
          within_limit n d le few = omega arith

      pub equal_distance : first ≡ second → square_distance s sp first second level q ≡ 0
      equal_distance same =
          let le = distance_within (λ u c. 0) (λ u c. ap_gap (class_persons s sp q first u c) (class_persons s sp q second u c) (ap (λ rs. class_persons s sp q rs u c) same)) in
          let none : sum_by (λ u. sum_by (λ c. 0) (classes_of s q)) (units_at sp level) ≡ 0 =
          sums_same (λ u. sum_by (λ c. 0) (classes_of s q)) (λ u. 0) (units_at sp level) (λ u. sum_zero (classes_of s q)) ∙ sum_zero (units_at sp level) in
          omega (arith, le, none)
        where
          ap_gap : (m n : ℕ) → m ≡ n → squared_gap m n ≤ 0
          ap_gap m n e = let le = gap_of_two m n false false (ap (λ k. k + 0) e) in omega (arith, le)

      pub neighbour_distance : AreNeighbours first second → square_distance s sp first second level q ≤ 2
      neighbour_distance n = elim (cases_lt n.place (length first)) [
        | inr past ↦ let none = equal_distance (one_list first second n past) in omega (arith, none)
        | inl below ↦
            let a = record_at first n.place in
            let b = record_at second n.place in
            let le = distance_within (λ u c. one_if (counts_there u c a) + one_if (counts_there u c b)) (λ u c.
            let count = sum_by-set (λ r. one_if (counts_there u c r)) first n.place b (record { block = 0; cell = 0 }) below in
            let other_count : class_persons s sp q second u c ≡ count_by (counts_there u c) (set first n.place b) = ap (λ rs. class_persons s sp q rs u c) (replaced first second n below) in
            gap_of_two (class_persons s sp q first u c) (class_persons s sp q second u c) (counts_there u c a) (counts_there u c b) (omega (arith, count, other_count))) in
            let split = both_sums (λ u c. one_if (counts_there u c a)) (λ u c. one_if (counts_there u c b)) in
            let once_first = counts_once a (one.each n.place (record { block = 0; cell = 0 }) below) in
            let once_second = counts_once b (other.each n.place (record { block = 0; cell = 0 }) (omega (arith, n.size, below))) in
            omega (arith, le, split, once_first, once_second)
      ]

  -- the distance by counts of the units and classes
  module _ (first second : List Record) (ones others : Counts) (one : AreClassCounts s sp first level q ones) (other : AreClassCounts s sp second level q others) where
    pub same_distance : sum_by (unit_gap ones others (classes_of s q)) (units_at sp level) ≡ square_distance s sp first second level q
    same_distance =
        sum_same (unit_gap ones others (classes_of s q)) (λ u. sum_by (λ c. squared_gap (class_persons s sp q first u c) (class_persons s sp q second u c)) (classes_of s q)) (units_at sp level)
        (each_both (λ u. All (λ c. count_at ones u c ≡ class_persons s sp q first u c) (classes_of s q)) (λ u. All (λ c. count_at others u c ≡ class_persons s sp q second u c) (classes_of s q)) _ (units_at sp level)
        (λ u here there.
        sum_same (λ c. squared_gap (count_at ones u c) (count_at others u c)) (λ c. squared_gap (class_persons s sp q first u c) (class_persons s sp q second u c)) (classes_of s q)
        (each_both (λ c. count_at ones u c ≡ class_persons s sp q first u c) (λ c. count_at others u c ≡ class_persons s sp q second u c) _ (classes_of s q)
        (λ c is are. ap (λ m. squared_gap m (count_at others u c)) is ∙ ap (squared_gap (class_persons s sp q first u c)) are)
        (recursion_from_All (λ c. count_at ones u c ≡ class_persons s sp q first u c) (classes_of s q) here)
        (recursion_from_All (λ c. count_at others u c ≡ class_persons s sp q second u c) (classes_of s q) there)))
        (recursion_from_All (λ u. All (λ c. count_at ones u c ≡ class_persons s sp q first u c) (classes_of s q)) (units_at sp level) one.each)
        (recursion_from_All (λ u. All (λ c. count_at others u c ≡ class_persons s sp q second u c) (classes_of s q)) (units_at sp level) other.each))

-- there is a count for each class
pub class_places : (s : Schema) (sp : Spine) (q : Query) (whole : q.only ≡ []) (counts : Counts) → AreCountsOf s sp counts → (u : ℕ) → IsUnit sp u
    → (u < length counts) × All (λ c. c < length (get_or counts u [])) (classes_of s q)
class_places s sp q whole counts are u here =
    let g = grid_of s sp counts are in (
      omega (arith, g.size, here),
      All-from_recursion (λ c. c < length (get_or counts u [])) (classes_of s q)
          (each_weaker (IsClass s q whole) (λ c. c < length (get_or counts u [])) (classes_of s q) (λ c class. omega (arith, g.sizes u here, class.below)) (each_class s q whole)),
    )
