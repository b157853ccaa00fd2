use Rattle.std.proofs.Common.{◌-◌}
use Rattle.tda_model.specs.Spine.{units_at}
use Rattle.tda_out.specs.Counts.{count_at}
use Rattle.tda_hist.specs.Agreement.{block_faults}
use Rattle.tda_hist.proofs.Agreeing.{EmptyBefore}
use Rattle.tda_hist.proofs.agreement.agree.Given as goal

abbrev pub invariant-loop-block : goal.invariant-loop-block
invariant-loop-block l = EmptyBefore (block_faults l.schema l.facilities (count_at l.tables)) (units_at l.spine (l.spine.depth - 1)) l.block-index
