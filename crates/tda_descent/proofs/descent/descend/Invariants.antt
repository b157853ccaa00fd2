use Rattle.std.proofs.Common.{◌≡◌}
use Rattle.std.specs.Fn.{CalledAt, TakesAt}
use Rattle.tda_loss.specs.declared.Curve.{Curve}
use Rattle.tda_fitnet.specs.Inputs.{inputs_of}
use Rattle.tda_descent.proofs.Handing.{IsDescent}
use Rattle.tda_descent.proofs.descent.descend.Given as goal

abbrev pub invariant-loop-parent : goal.invariant-loop-parent
invariant-loop-parent g l = record {
  nodes : g.S.Solver.most_nodes l.solver ≡ g.S.Solver.most_nodes l.fn.solver;
  arcs : g.S.Solver.most_arcs l.solver ≡ g.S.Solver.most_arcs l.fn.solver;
  curves : (c : Curve) → g.S.Solver.takes_curve l.solver c ≡ g.S.Solver.takes_curve l.fn.solver c;
  descent : IsDescent (TakesAt g.K.FnMut) (CalledAt g.K.FnMut) l.loss.curve (inputs_of l.schema l.spine l.inv l.m) l.parent-index l.root.shares.items l.tables l.fn.keep l.keep;
}
