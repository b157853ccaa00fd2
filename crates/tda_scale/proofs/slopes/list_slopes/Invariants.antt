use Rattle.std.proofs.Common.{◌≤◌, vec_capacity}
use Rattle.tda_scale.specs.Slopes.{AreSlopesBelow}
use Rattle.tda_scale.proofs.slopes.list_slopes.Given as goal

abbrev pub invariant-loop-i : goal.invariant-loop-i
invariant-loop-i l = record {
  slopes : AreSlopesBelow l.net l.i l.slopes.items;
  room : vec_capacity l.fn.slopes ≤ vec_capacity l.slopes;
}
