use Rattle.std.proofs.Common.{◌≡◌, drop}
use Rattle.tda_flow.specs.Walk.{moved, CanMove}
use Rattle.tda_flow.proofs.walk.move_along.Given as goal

abbrev pub invariant-loop-turn : goal.invariant-loop-turn
invariant-loop-turn l =
    (moved (drop l.turn-index l.walk) l.delta l.flow ≡ moved l.walk l.delta l.initial.flow) × CanMove l.delta l.flow (drop l.turn-index l.walk)
