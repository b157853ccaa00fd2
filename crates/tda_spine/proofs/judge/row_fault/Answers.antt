use Rattle.std.proofs.Common.{arith}
use Rattle.tda_spine.proofs.judge.row_fault.Goals as goal

pub overflow_add-number : goal.overflow_add-number
overflow_add-number c = omega (arith, c.requires.few, c.requires.row)
