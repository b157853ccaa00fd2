use Rattle.std.proofs.Common.{get_or, false, arith}
use Rattle.tda_schema.proofs.Marks.{judged_all}
use Rattle.tda_schema.proofs.cells.keep_marked.Goals as goal

pub returns : goal.returns
returns c = judged_all (λ i. get_or c.args.marks.now (get_or c.args.column.now i 0) false) c.args.cells.now c.loop-cell.cell c.loop-cell.cells (omega arith) c.loop-cell.invariant
