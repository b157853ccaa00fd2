use Rattle.std.proofs.Common.{◌*◌, ◌≤◌, vec_capacity}
use Rattle.tda_loss.specs.Curve.{value_of}
use Rattle.tda_cancel.specs.Steps.{AreSteps}
use Rattle.tda_cancel.proofs.steps.list_steps.Given as goal

abbrev pub invariant-loop-arc : goal.invariant-loop-arc
invariant-loop-arc g l = record {
  steps : AreSteps (value_of l.loss.curve) l.net l.flow (2 * l.arc) l.steps.items;
  room : vec_capacity l.fn.steps ≤ vec_capacity l.steps;
}
