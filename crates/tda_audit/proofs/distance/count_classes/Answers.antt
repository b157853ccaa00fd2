use Rattle.std.proofs.Common.{◌≡◌, ◌+◌, ◌≤◌, ◌^◌, ◌==◌, ◌&&◌, [], get_or, set, refl, sym, ap, ◌∙◌, subst, ne_eqb, eq-eqb, arith}
use Rattle.tda_schema.specs.Stated.{query_at}
use Rattle.tda_schema.specs.Stated.{class_of}
use Rattle.std.proofs.lemmas.List.{get_or_default}
use Rattle.tda_model.specs.Cells.{cell_count, is_possible}
use Rattle.tda_sets.proofs.Members.{passing_below}
use Rattle.tda_out.specs.Counts.{count_at}
use Rattle.tda_groups.proofs.Classes.{class_below, class_names}
use Rattle.tda_audit.proofs.SumsBy.{AreSums, part, sums_more, sums_skip}
use Rattle.tda_audit.proofs.Deviations.{is_of_class, class_sum, part_few}
use Rattle.tda_audit.proofs.distance.count_classes.Goals as goal
use Rattle.tda_audit.proofs.distance.count_classes.Goals.{then-possible, else-possible}

pub bounds-counts-class_of : goal.bounds-counts-class_of
bounds-counts-class_of c =
    let s = c.args.schema.now in
    let low = class_below s (query_at s c.args.level c.args.query) c.loop-cell.cell (omega (arith, c.loop-cell-test.true, c.cells-cell-end.ensures.count)) in
    omega (arith, c.class_of.ensures, low, c.loop-cell.invariant.size)

pub bounds-counts-class_of-then-possible : goal.bounds-counts-class_of-then-possible
bounds-counts-class_of-then-possible c =
    let s = c.args.schema.now in
    let low = class_below s (query_at s c.args.level c.args.query) c.loop-cell.cell (omega (arith, c.loop-cell-test.true, c.cells-cell-end.ensures.count)) in
    omega (arith, c.class_of.ensures, low, c.loop-cell.invariant.size)

pub loop-cell-preserved : goal.loop-cell-preserved
loop-cell-preserved c =
    let s = c.args.schema.now in
    let q = query_at s c.args.level c.args.query in
    let x = count_at c.args.tables.now c.args.unit in
    let n = c.loop-cell.cell in
    let counts = c.loop-cell.counts in
    let own = class_of s q n in
    let low = class_below s q n (omega (arith, c.loop-cell-test.true, c.cells-cell-end.ensures.count)) in
    elim c.if-possible.branch [
      | then-possible w ↦
          let now : c.if-possible.counts ≡ set counts own (get_or counts own 0 + x n) =
          w.counts-is ∙ ap (λ k. set counts k (get_or counts k 0 + w.get.result)) w.class_of.ensures ∙ ap (λ m. set counts own (get_or counts own 0 + m)) w.get.ensures.count in
          let can = sym c.possible.ensures ∙ w.if-possible.true in
          let few : x n ≤ 2 ^ 30 = omega (arith, w.get.ensures.count, w.get.ensures.limit) in
          record {
            size = omega (arith, c.if-possible.auto.counts, c.loop-cell.invariant.size);
            sums = subst (AreSums (is_of_class s q) x (n + 1)) (sym now)
                (sums_more (is_of_class s q) x n own few (ap (λ b. b && (own == own)) can ∙ eq-eqb own own refl)
                (λ k other. ap (λ b. b && (own == k)) can ∙ ne_eqb own k (λ e. other (sym e))) counts (omega (arith, low, c.loop-cell.invariant.size)) c.loop-cell.invariant.sums);
          }
      | else-possible w ↦
          let never = sym c.possible.ensures ∙ w.if-possible.false in
          record {
            size = omega (arith, c.if-possible.auto.counts, c.loop-cell.invariant.size);
            sums = subst (AreSums (is_of_class s q) x (n + 1)) (sym w.counts-is) (sums_skip (is_of_class s q) x n counts (λ k. ap (λ b. b && (own == k)) never) c.loop-cell.invariant.sums);
          }
    ]

pub returns-clause-few : goal.returns-clause-few
returns-clause-few c = λ k d low.
    let s = c.args.schema.now in
    let q = query_at s c.args.level c.args.query in
    let x = count_at c.args.tables.now c.args.unit in
    let all : c.loop-cell.cell ≡ cell_count s = omega (arith, c.loop-cell-test.false, c.loop-cell.auto.cell-end, c.cells-cell-end.ensures.count) in
    let is = get_or_default c.loop-cell.counts k d 0 low ∙ c.loop-cell.invariant.sums.each k low ∙ ap (λ n. part (is_of_class s q) x n k) all in
    let over : q.only ≡ [] = c.queries-queries.ensures.over_all c.args.query _ c.requires.query in
    omega (arith, is, part_few s q over x k, c.requires.few)

pub returns-clause-sums : goal.returns-clause-sums
returns-clause-sums c = λ k found.
    let s = c.args.schema.now in
    let q = query_at s c.args.level c.args.query in
    let x = count_at c.args.tables.now c.args.unit in
    let all : c.loop-cell.cell ≡ cell_count s = omega (arith, c.loop-cell-test.false, c.loop-cell.auto.cell-end, c.cells-cell-end.ensures.count) in
    let over : q.only ≡ [] = c.queries-queries.ensures.over_all c.args.query _ c.requires.query in
    let below = passing_below (is_possible s) (cell_count s) k (class_names s q over k found).0 in
    c.loop-cell.invariant.sums.each k (omega (arith, below, c.loop-cell.invariant.size)) ∙ ap (λ n. part (is_of_class s q) x n k) all ∙ class_sum s q over x k found
