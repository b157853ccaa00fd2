use Rattle.tda_model.specs.Spine.{unit_numbers}
use Rattle.tda_model.specs.Tables.{Published}
use Rattle.tda_out.specs.Counts.{count_at}
use Rattle.tda_audit.specs.Verdicts.{breaks}
use Rattle.tda_audit.proofs.Walks.{FailsInto}
use Rattle.tda_audit.proofs.Passes.{sums_at}
use Rattle.tda_audit.proofs.rules.wrong_sum.Given as goal

abbrev pub invariant-loop-unit : goal.invariant-loop-unit
invariant-loop-unit l = (known : Published) → FailsInto (breaks l.schema l.spine known (count_at l.tables)) (sums_at l.schema l.spine) (unit_numbers l.spine) l.unit
