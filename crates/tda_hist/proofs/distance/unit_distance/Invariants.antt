use Rattle.std.proofs.Common.{◌≡◌, take, sum_by}
use Rattle.tda_out.specs.Counts.{count_at}
use Rattle.tda_hist.specs.Distance.{squared_gap}
use Rattle.tda_hist.proofs.distance.unit_distance.Given as goal

abbrev pub invariant-loop-cell : goal.invariant-loop-cell
invariant-loop-cell l = l.sum ≡ sum_by (λ j. squared_gap (count_at l.first l.unit j) (count_at l.second l.unit j)) (take l.cell-index l.cells)
