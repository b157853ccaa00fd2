use Rattle.std.proofs.Common.{◌≡◌, ℕ, suc, ◌-◌, ◌<◌, ◌≤◌, Some, length, slice_index}
use Rattle.tda_flow.specs.declared.net.Turn.{Turn}
use Rattle.tda_flow.specs.Rooms.{space_of}
use Rattle.tda_flow.specs.Search.{IsFound, IsFollowed, marked_rank}
use Rattle.tda_flow.specs.Turns.{turn_from}
use Rattle.tda_flow.proofs.search.search.Given as goal

abbrev pub invariant-loop-next : goal.invariant-loop-next
invariant-loop-next l = record {
  found : IsFound (space_of l.room) l.marks l.queue l.filled;
  start : slice_index l.queue 0 ≡ l.start;
  near : (v m n : ℕ) → l.next < l.filled → marked_rank l.marks v ≡ Some m → marked_rank l.marks (slice_index l.queue l.next) ≡ Some n → m ≤ suc n;
  followed : (i n : ℕ) (t : Turn) → i < l.next → turn_from l.room.net.now t ≡ slice_index l.queue i → marked_rank l.marks (slice_index l.queue i) ≡ Some n → IsFollowed (space_of l.room) l.marks n t;
}

abbrev pub decreases-loop-next : goal.decreases-loop-next
decreases-loop-next l = length l.marks - l.next
