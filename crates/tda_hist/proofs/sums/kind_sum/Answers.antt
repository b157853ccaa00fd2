use Rattle.std.proofs.Common.{◌∙◌, ◌+◌, ◌-◌, ◌*◌, ◌/◌, ◌≤◌, ap, arith}
use Rattle.tda_model.specs.Cells.{cell_count}
use Rattle.tda_out.specs.Counts.{count_at}
use Rattle.tda_hist.proofs.KindCells.{more_from, kind_sum_by}
use Rattle.tda_hist.proofs.sums.kind_sum.Goals as goal

pub loop-cell-preserved : goal.loop-cell-preserved
loop-cell-preserved c =
    let first = c.from-2.result * (c.cells.result / c.from.result) in
    let low : first ≤ c.loop-cell.cell = c.loop-cell.auto.cell in
    record {
      sum = more_from (count_at c.args.tables.now c.args.unit) first (c.loop-cell.cell - first) (c.loop-cell.cell + 1 - first) c.loop-cell.cell c.loop-cell.persons c.get-persons.result
          (omega arith) (omega arith) c.loop-cell.invariant.sum c.get-persons.ensures.count;
      limit = omega (arith, c.loop-cell.invariant.limit, c.get-persons.ensures.limit);
    }

pub returns : goal.returns
returns c =
    let s = c.args.schema.now in
    let kinds = c.from.ensures ∙ c.kinds.ensures.count in
    let per = ap (λ n. n / c.from.result) c.cells.ensures.count ∙ ap (λ n. cell_count s / n) kinds in
    let first = c.from-2.result * (c.cells.result / c.from.result) in
    let low : first ≤ c.loop-cell.cell = c.loop-cell.auto.cell in
    kind_sum_by s c.cells.ensures.limits (count_at c.args.tables.now c.args.unit) c.args.kind c.requires.kind first (c.cells.result / c.from.result) (c.loop-cell.cell - first) c.loop-cell.persons
    (ap (λ n. n * (c.cells.result / c.from.result)) c.from-2.ensures) per (omega (arith, c.loop-cell-test.false, c.loop-cell.auto.cell-end)) c.loop-cell.invariant.sum
