use Rattle.std.proofs.Common.{sym, arith}
use Rattle.tda_flow.specs.Rooms.{space_of}
use Rattle.tda_flow.proofs.Marks.{followed-marked, found-new, no_mark}
use Rattle.tda_flow.proofs.search.follow.Goals as goal
use Rattle.tda_flow.proofs.search.follow.Goals.{then-is_some-via-then-is_some, then-is_some-via-else-is_some+then-not-is_usable}

pub returns-then-is_some-clause-followed : goal.returns-then-is_some-clause-followed
returns-then-is_some-clause-followed c =
    elim c.then-is_some.branch [
      | then-is_some-via-then-is_some w ↦
          followed-marked (space_of c.args.room.now) c.args.marks.now c.end-end.result c.args.level c.args.turn c.end-end.ensures.value (sym w.if-is_some.ensures) c.requires.near
      | then-is_some-via-else-is_some+then-not-is_usable w ↦ λ u. let a = w.is_usable.ensures.1 u in let h = w.if-not-is_usable.true in absurd (cc)
    ]

pub returns-clause-found : goal.returns-clause-found
returns-clause-found c =
    found-new (space_of c.args.room.now) c.args.marks.now c.args.queue.now c.args.filled c.args.level c.end-end.result c.args.turn c.requires.found (omega arith) (omega arith)
    (no_mark _ c.if-is_some.ensures) (c.is_usable.ensures.0 c.if-not-is_usable.false) c.end-end.ensures.value c.requires.level c.requires.near c.requires.below
