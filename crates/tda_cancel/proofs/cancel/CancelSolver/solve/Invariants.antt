use Rattle.std.proofs.Common.{◌≡◌, nat_abs}
use Rattle.tda_loss.specs.Curve.{value_of}
use Rattle.tda_flow.specs.Flow.{IsCirculation, cost}
use Rattle.tda_cancel.specs.Inside.{IsCancel}
use Rattle.tda_cancel.proofs.cancel.CancelSolver.solve.Given as goal

abbrev pub invariant-loop : goal.invariant-loop
invariant-loop g l = record {
  flow : IsCirculation l.net l.flow;
  inside : IsCancel l.self-inside;
  nodes : l.self-inside.nodes ≡ l.fn.self.nodes;
  arcs : l.self-inside.arcs ≡ l.fn.self.arcs;
}

abbrev pub decreases-loop : goal.decreases-loop
decreases-loop g l = nat_abs (cost (value_of l.loss.curve) l.net l.flow)
