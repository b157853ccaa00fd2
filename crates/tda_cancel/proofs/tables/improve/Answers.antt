use Rattle.std.proofs.Common.{◌≡◌, ◌<ℤ◌, List, sym, ap, subst, ◌∙◌, arith}
use Rattle.std.specs.List.{slice_range}
use Rattle.tda_loss.specs.Curve.{value_of}
use Rattle.tda_loss.proofs.Laws.{IsCurve-value_of}
use Rattle.tda_flow.specs.declared.net.Turn.{Turn}
use Rattle.tda_flow.specs.Flow.{IsCirculation, cost}
use Rattle.tda_flow.specs.Walk.{moved}
use Rattle.tda_cancel.specs.Trace.{IsLosing}
use Rattle.tda_cancel.proofs.Closed.{improves}
use Rattle.tda_cancel.proofs.tables.improve.Goals as goal

pub returns-in_default-clause-room : goal.returns-in_default-clause-room
returns-in_default-clause-room g c =
    λ n m h.
    c.losing_walk.ensures.room n m (record {
      steps = omega (arith, h.steps, c.list_steps.ensures.room);
      costs = h.costs;
      before = h.before;
      lasts = h.lasts;
      marks = h.marks;
      walk = h.walk;
    })

pub returns-clause-room : goal.returns-clause-room
returns-clause-room g c =
    λ n m h.
    c.losing_walk.ensures.room n m (record {
      steps = omega (arith, h.steps, c.list_steps.ensures.room);
      costs = h.costs;
      before = h.before;
      lasts = h.lasts;
      marks = h.marks;
      walk = h.walk;
    })

pub move_along-requires : goal.move_along-requires
move_along-requires g c =
    let walk : List Turn = c.losing_walk.new.tables.walk.items in
    let losing : IsLosing c.list_steps.new.steps.items (slice_range walk c.in-Some.first c.in-Some.end) = c.in-Some.ensures.losing in
    let i = improves (value_of c.args.loss.now.curve) (IsCurve-value_of c.args.loss.now.curve).convex c.args.net.now c.args.flow.now _ c.list_steps.new.steps.items
    (slice_range walk c.in-Some.first c.in-Some.end) c.nodes-nodes.ensures.sound c.requires.flow c.list_steps.ensures.steps losing in
    record { room = rw c.deref.ensures.value i.can }

pub returns-clause-flow : goal.returns-clause-flow
returns-clause-flow g c =
    let walk : List Turn = c.losing_walk.new.tables.walk.items in
    let losing : IsLosing c.list_steps.new.steps.items (slice_range walk c.in-Some.first c.in-Some.end) = c.in-Some.ensures.losing in
    let i = improves (value_of c.args.loss.now.curve) (IsCurve-value_of c.args.loss.now.curve).convex c.args.net.now c.args.flow.now _ c.list_steps.new.steps.items
    (slice_range walk c.in-Some.first c.in-Some.end) c.nodes-nodes.ensures.sound c.requires.flow c.list_steps.ensures.steps losing in
    let e : c.move_along.new.flow ≡ moved (slice_range walk c.in-Some.first c.in-Some.end) 1 c.args.flow.now =
    c.move_along.ensures.flow ∙ ap (λ z. moved (slice_range z c.in-Some.first c.in-Some.end) 1 c.args.flow.now) c.deref.ensures.value in
    subst (IsCirculation c.args.net.now) (sym e) i.circulates

pub returns-clause-cheaper : goal.returns-clause-cheaper
returns-clause-cheaper g c =
    λ yes.
    let walk : List Turn = c.losing_walk.new.tables.walk.items in
    let losing : IsLosing c.list_steps.new.steps.items (slice_range walk c.in-Some.first c.in-Some.end) = c.in-Some.ensures.losing in
    let i = improves (value_of c.args.loss.now.curve) (IsCurve-value_of c.args.loss.now.curve).convex c.args.net.now c.args.flow.now _ c.list_steps.new.steps.items
    (slice_range walk c.in-Some.first c.in-Some.end) c.nodes-nodes.ensures.sound c.requires.flow c.list_steps.ensures.steps losing in
    let e : c.move_along.new.flow ≡ moved (slice_range walk c.in-Some.first c.in-Some.end) 1 c.args.flow.now =
    c.move_along.ensures.flow ∙ ap (λ z. moved (slice_range z c.in-Some.first c.in-Some.end) 1 c.args.flow.now) c.deref.ensures.value in
    subst (λ z. cost (value_of c.args.loss.now.curve) c.args.net.now z <ℤ cost (value_of c.args.loss.now.curve) c.args.net.now c.args.flow.now) (sym e) i.cheaper
