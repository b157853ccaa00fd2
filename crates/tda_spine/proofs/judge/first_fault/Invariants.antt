use Rattle.std.proofs.Common.{[]}
use Rattle.tda_io.specs.Csv.{first_fault}
use Rattle.tda_io.proofs.Loops.{Leads}
use Rattle.tda_spine.specs.Judged.{row_fault}
use Rattle.tda_spine.proofs.judge.first_fault.Given as goal

abbrev pub invariant-loop-row : goal.invariant-loop-row
invariant-loop-row l = let judge = row_fault l.schema l.rows in Leads judge l.rows (first_fault judge [] l.rows) l.row
