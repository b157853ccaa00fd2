use Rattle.std.proofs.Common.{◌∙◌, ◌<◌, sym, arith}
use Rattle.tda_model.specs.Cells.{cell_count, is_possible}
use Rattle.tda_spine.proofs.Numbers.{count_next-yes, count_next-no, count_all}
use Rattle.tda_prices.proofs.count.count_possible.Goals as goal
use Rattle.tda_prices.proofs.count.count_possible.Goals.{then-possible, else-possible}

pub loop-cell-preserved : goal.loop-cell-preserved
loop-cell-preserved c =
    let s = c.args.schema.now in
    let below : c.loop-cell.cell < cell_count s = omega (arith, c.cells-cell-end.ensures.count) in
    elim c.if-possible.branch [
      | then-possible w ↦
          let next = count_next-yes (is_possible s) (cell_count s) c.loop-cell.cell below (sym c.possible.ensures ∙ w.if-possible.true) in
          (omega (arith, next, w.count-is, c.loop-cell.invariant.0), omega (arith, w.count-is, c.loop-cell.invariant.1))
      | else-possible w ↦
          let next = count_next-no (is_possible s) (cell_count s) c.loop-cell.cell below (sym c.possible.ensures ∙ w.if-possible.false) in
          (omega (arith, next, w.count-is, c.loop-cell.invariant.0), omega (arith, w.count-is, c.loop-cell.invariant.1))
    ]

pub returns-clause-count : goal.returns-clause-count
returns-clause-count c =
    let s = c.args.schema.now in
    c.loop-cell.invariant.0 ∙ count_all (is_possible s) (cell_count s) c.loop-cell.cell (omega (arith, c.cells-cell-end.ensures.count))
