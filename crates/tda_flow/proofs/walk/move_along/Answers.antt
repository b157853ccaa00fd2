use Rattle.std.proofs.Common.{◌≡◌, ℕ, ◌≤◌, List, length, drop, sym, subst, ◌∙◌, ap, arith}
use Rattle.std.proofs.lemmas.List.{drop_all}
use Rattle.tda_flow.specs.declared.net.Turn.{Turn}
use Rattle.tda_flow.specs.Walk.{moved}
use Rattle.tda_flow.specs.Moved.{ShiftsEnds, StaysBounded, CostsAtMost, CostsExactly}
use Rattle.tda_flow.proofs.Carried.{shifts, stays, at_most, exactly}
use Rattle.tda_flow.proofs.walk.move_along.Goals as goal

whole : (ts : List Turn) (n d : ℕ) (flow all : List ℕ) → length ts ≤ n → moved (drop n ts) d flow ≡ all → all ≡ flow
whole ts n d flow all l e = sym e ∙ ap (λ us. moved us d flow) (drop_all n ts l)

pub returns-clause-balance : goal.returns-clause-balance
returns-clause-balance c =
    subst (ShiftsEnds c.args.walk.now c.args.delta c.args.flow.now)
    (whole c.args.walk.now c.loop-turn.turn-index c.args.delta c.loop-turn.flow _ (omega arith) c.loop-turn.invariant.0)
    (shifts c.args.walk.now c.args.delta c.args.flow.now c.requires.room)

pub returns-clause-bounds : goal.returns-clause-bounds
returns-clause-bounds c =
    subst (StaysBounded c.args.walk.now c.args.delta c.args.flow.now)
    (whole c.args.walk.now c.loop-turn.turn-index c.args.delta c.loop-turn.flow _ (omega arith) c.loop-turn.invariant.0)
    (stays c.args.walk.now c.args.delta c.args.flow.now)

pub returns-clause-cost : goal.returns-clause-cost
returns-clause-cost c =
    subst (CostsAtMost c.args.walk.now c.args.delta c.args.flow.now)
    (whole c.args.walk.now c.loop-turn.turn-index c.args.delta c.loop-turn.flow _ (omega arith) c.loop-turn.invariant.0)
    (at_most c.args.walk.now c.args.delta c.args.flow.now)

pub returns-clause-same_cost : goal.returns-clause-same_cost
returns-clause-same_cost c =
    subst (CostsExactly c.args.walk.now c.args.delta c.args.flow.now)
    (whole c.args.walk.now c.loop-turn.turn-index c.args.delta c.loop-turn.flow _ (omega arith) c.loop-turn.invariant.0)
    (exactly c.args.walk.now c.args.delta c.args.flow.now c.requires.room)
