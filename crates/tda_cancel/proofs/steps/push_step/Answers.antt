use Rattle.std.proofs.Common.{◌≡◌, ◌+◌, cond, sym, subst, ◌∙◌, ap, [], ◌∷◌, ◌++◌, is_ok}
use Rattle.tda_loss.specs.Curve.{value_of}
use Rattle.tda_flow.specs.Turns.{turn_number}
use Rattle.tda_cancel.specs.Steps.{AreSteps}
use Rattle.tda_cancel.proofs.Listed.{listed-more}
use Rattle.tda_cancel.proofs.steps.push_step.Goals as goal

pub returns-in-Some-clause-steps : goal.returns-in-Some-clause-steps
returns-in-Some-clause-steps g c =
    let items : c.push.new.self.items ≡ c.args.steps.now.items ++ c.in-Some.step ∷ [] =
    c.push.ensures.items ∙ ap (λ r. cond (is_ok r) (c.args.steps.now.items ++ c.in-Some.step ∷ []) c.args.steps.now.items) c.unwrap.ensures in
    subst (λ z. AreSteps (value_of c.args.loss.now.curve) c.args.net.now c.args.flow.now (turn_number c.args.turn + 1) z) (sym items)
    (listed-more (value_of c.args.loss.now.curve) c.args.net.now c.args.flow.now c.args.steps.now.items c.in-Some.step c.args.turn c.requires.steps
    c.in-Some.ensures.step c.in-Some.ensures.turn)
