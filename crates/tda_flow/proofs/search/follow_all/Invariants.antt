use Rattle.std.proofs.Common.{◌≡◌, ◌≤◌, Some}
use Rattle.tda_flow.specs.declared.net.Turn.{Turn}
use Rattle.tda_flow.specs.Rooms.{space_of}
use Rattle.tda_flow.specs.Search.{IsFound, IsNear, IsFollowed, IsMore, marked_rank}
use Rattle.tda_flow.specs.Turns.{turn_from, turn_number, turn_limit, Leaves}
use Rattle.tda_flow.proofs.search.follow_all.Given as goal

abbrev pub invariant-loop-next : goal.invariant-loop-next
invariant-loop-next l = record {
  found : IsFound (space_of l.room) l.marks l.queue l.filled;
  near : IsNear l.marks l.level;
  level : marked_rank l.marks l.node ≡ Some l.level;
  more : IsMore l.initial.marks l.marks l.initial.queue l.queue l.fn.filled;
  filled : l.fn.filled ≤ l.filled;
  due : (u : Turn) → l.next ≡ Some u → Leaves l.room.net.now l.node u;
  followed : (u : Turn) → turn_from l.room.net.now u ≡ l.node → turn_limit l.next ≤ turn_number u → IsFollowed (space_of l.room) l.marks l.level u;
}

abbrev pub decreases-loop-next : goal.decreases-loop-next
decreases-loop-next l = turn_limit l.next
