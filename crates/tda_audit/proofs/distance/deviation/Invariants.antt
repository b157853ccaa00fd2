use Rattle.std.proofs.Common.{◌≡◌, ◌*◌, ◌≤◌, ◌^◌, length}
use Rattle.std.specs.List.{sum_by, range_with_len}
use Rattle.tda_model.specs.Cells.{cell_count}
use Rattle.tda_model.specs.Release.{deviation_at}
use Rattle.tda_invar.specs.Known.{JoinedLists}
use Rattle.tda_out.specs.Counts.{count_at}
use Rattle.tda_fitnet.specs.Fits.{curve_of}
use Rattle.tda_fitnet.specs.Inputs.{inputs_of}
use Rattle.tda_audit.proofs.distance.deviation.Given as goal

abbrev pub invariant-loop-unit : goal.invariant-loop-unit
invariant-loop-unit g l = record {
  size : length l.counts ≡ cell_count l.schema;
  sum_is : (inv : JoinedLists) → l.sum ≡ sum_by (λ u. deviation_at (curve_of l.loss.curve) (inputs_of l.schema l.spine inv l.m) u (count_at l.tables u)) (range_with_len 0 l.unit);
  small : l.sum ≤ l.unit * 2 ^ 103;
}
