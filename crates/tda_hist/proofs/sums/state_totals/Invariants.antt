use Rattle.std.proofs.Common.{◌≡◌, map, take}
use Rattle.tda_model.specs.Spine.{units_at}
use Rattle.tda_model.specs.Tables.{persons_in}
use Rattle.tda_out.specs.Counts.{count_at}
use Rattle.tda_hist.proofs.sums.state_totals.Given as goal

abbrev pub invariant-loop-state : goal.invariant-loop-state
invariant-loop-state l = l.totals.items ≡ map (λ st. persons_in l.schema (count_at l.tables st)) (take l.state-index (units_at l.spine 1))
