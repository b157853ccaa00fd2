use Rattle.std.proofs.Common.{◌≡◌, ◌∙◌, ◌+◌, ◌-◌, ◌≤◌, ℕ, cond, ap, sym, arith}
use Rattle.tda_model.specs.Cells.{cell_count}
use Rattle.tda_model.specs.Groups.{class_cells}
use Rattle.tda_out.specs.Counts.{count_at}
use Rattle.tda_schema.specs.Parts.{holds}
use Rattle.tda_schema.specs.Stated.{query_at}
use Rattle.tda_hist.specs.TrueTable.{class_persons, class_sum}
use Rattle.tda_hist.proofs.ClassCells.{over_whole, class_at, class_sum_by}
use Rattle.tda_hist.proofs.Counted.{counted_class}
use Rattle.tda_hist.proofs.KindCells.{more_from}
use Rattle.tda_hist.proofs.sums.class_sum.Goals as goal
use Rattle.tda_hist.proofs.sums.class_sum.Goals.{then-is_in_class, else-is_in_class}

pub loop-cell-preserved : goal.loop-cell-preserved
loop-cell-preserved c =
    let x = count_at c.args.tables.now c.args.place.unit in
    let cells = class_cells c.args.schema.now (query_at c.args.schema.now c.level-level.result c.args.place.query) c.args.place.class in
    let term : ℕ → ℕ = λ j. cond (holds cells j) (x j) 0 in
    let first = c.args.place.class in
    let low : first ≤ c.loop-cell.cell = c.loop-cell.auto.cell in
    record {
      sum = elim c.if-is_in_class.branch [
        | then-is_in_class w ↦
            let own : w.get-sum.result ≡ term c.loop-cell.cell = w.get-sum.ensures.count ∙ sym (ap (λ b. cond b (x c.loop-cell.cell) 0) (sym c.is_in_class.ensures ∙ w.if-is_in_class.true)) in
            w.sum-is ∙ more_from term first (c.loop-cell.cell - first) (c.loop-cell.cell + 1 - first) c.loop-cell.cell c.loop-cell.sum w.get-sum.result (omega arith) (omega arith) c.loop-cell.invariant.sum own
        | else-is_in_class w ↦
            let none : 0 ≡ term c.loop-cell.cell = sym (ap (λ b. cond b (x c.loop-cell.cell) 0) (sym c.is_in_class.ensures ∙ w.if-is_in_class.false)) in
            let same : c.if-is_in_class.sum ≡ c.loop-cell.sum + 0 = omega (arith, w.sum-is) in
            same ∙ more_from term first (c.loop-cell.cell - first) (c.loop-cell.cell + 1 - first) c.loop-cell.cell c.loop-cell.sum 0 (omega arith) (omega arith) c.loop-cell.invariant.sum none
      ];
      limit = elim c.if-is_in_class.branch [
        | then-is_in_class w ↦ omega (arith, w.sum-is, w.get-sum.ensures.limit, c.loop-cell.invariant.limit)
        | else-is_in_class w ↦ omega (arith, w.sum-is, c.loop-cell.invariant.limit)
      ];
    }

pub returns : goal.returns
returns c =
    let s = c.args.schema.now in
    let x = count_at c.args.tables.now c.args.place.unit in
    let q = query_at s c.level-level.result c.args.place.query in
    let first = c.args.place.class in
    let level = c.level-level.ensures in
    let query = rw (sym level) at c.requires.place.query in
    let there = rw (sym level) at c.requires.place.class in
    let whole = over_whole s c.level-level.result c.args.place.query c.queries.ensures.over_all query in
    let class = class_at s q whole first there in
    let low : first ≤ c.loop-cell.cell = c.loop-cell.auto.cell in
    let all : first + (c.loop-cell.cell - first) ≡ cell_count s = omega (arith, c.loop-cell-test.false, c.loop-cell.auto.cell-end, c.cells-cell-end.ensures.count, class.below) in
    let sum_is = class_sum_by s q whole x first class (c.loop-cell.cell - first) c.loop-cell.sum all c.loop-cell.invariant.sum in
    record {
      value = sum_is ∙ ap (λ l. class_sum s (query_at s l c.args.place.query) x first) level;
      persons = λ records is.
          sum_is ∙ counted_class s c.args.spine.now q whole records c.args.tables.now is c.args.place.unit first c.requires.place.unit
          ∙ ap (λ l. class_persons s c.args.spine.now (query_at s l c.args.place.query) records c.args.place.unit first) level;
      limit = omega (arith, c.loop-cell.invariant.limit, all, c.cells-cell-end.ensures.limits.cells);
    }
