use Rattle.std.specs.List.{range_with_len}
use Rattle.tda_model.specs.Groups.{kind_count}
use Rattle.tda_out.specs.Counts.{count_at}
use Rattle.tda_hist.specs.Agreement.{faults_at}
use Rattle.tda_hist.proofs.Agreeing.{EmptyBefore}
use Rattle.tda_hist.proofs.agreement.block_fault.Given as goal

abbrev pub invariant-loop-kind : goal.invariant-loop-kind
invariant-loop-kind l = EmptyBefore (faults_at l.schema l.facilities (count_at l.tables) l.block) (range_with_len 0 (kind_count l.schema)) l.kind
