use Rattle.std.proofs.Common.{◌≡◌, ℕ, ◌≤◌, drop, length, Some}
use Rattle.tda_flow.specs.Reach.{IsSearched, AreLasts}
use Rattle.tda_flow.specs.Tables.{rank_at, last_at}
use Rattle.tda_flow.specs.Walk.{Space, IsWalk}
use Rattle.tda_flow.proofs.work.Work.trace.Given as goal

abbrev pub invariant-loop-turn : goal.invariant-loop-turn
invariant-loop-turn l = record {
  rank : rank_at l.self.ranks l.at ≡ Some l.left;
  left : l.left ≤ length l.walk;
  walks : (s : Space) (start : ℕ) → s.net ≡ l.net → IsSearched s start (rank_at l.self.ranks) (last_at l.self.lasts) → IsWalk s l.at (drop l.left l.walk) l.node;
  lasts : AreLasts l.net (last_at l.self.lasts) (drop l.left l.walk);
}

abbrev pub decreases-loop-turn : goal.decreases-loop-turn
decreases-loop-turn l = l.left
