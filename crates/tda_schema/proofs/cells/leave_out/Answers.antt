use Rattle.std.proofs.Common.{get_or, false, not, arith}
use Rattle.tda_schema.proofs.Marks.{judged_all}
use Rattle.tda_schema.proofs.cells.leave_out.Goals as goal

pub returns : goal.returns
returns c = judged_all (λ i. not (get_or c.args.others.now i false)) c.args.cells.now c.loop-cell.cell c.loop-cell.cells (omega arith) c.loop-cell.invariant
