use Rattle.std.proofs.Common.{◌≡◌, take, sum_by}
use Rattle.tda_out.specs.Counts.{count_at}
use Rattle.tda_hist.proofs.counting.sum_of.Given as goal

abbrev pub invariant-loop-unit : goal.invariant-loop-unit
invariant-loop-unit l = l.sum ≡ sum_by (λ u. count_at l.tables u l.cell) (take l.unit-index l.units)
