-- What a search has found so far: a mark for each node that it came to, and the queue of these nodes.
use Rattle.std.specs.Prelude.{◌≡◌, ℕ, zero, suc, ◌+◌, ◌≤◌, ◌<◌, List, length, count_by, slice_index, slice_index_or, Option, Some, None, is_none}
use Rattle.tda_flow.specs.declared.net.Turn.{Turn}
use Rattle.tda_flow.specs.declared.search.Mark.{Mark}
use Rattle.tda_flow.specs.Walk.{Space, IsUsable}
use Rattle.tda_flow.specs.Turns.{turn_to}
use Rattle.tda_flow.specs.Reach.{LeadsTo}

abbrev pub mark_at : List (Option Mark) → ℕ → Option Mark
mark_at marks v = slice_index_or marks v None

abbrev pub rank_of : Option Mark → Option ℕ
rank_of None = None
rank_of (Some m) = Some m.rank

abbrev pub last_of : Option Mark → Option Turn
last_of None = None
last_of (Some m) = m.last

-- the rank and the last turn of a node
abbrev pub marked_rank : List (Option Mark) → ℕ → Option ℕ
marked_rank marks v = rank_of (mark_at marks v)

abbrev pub marked_last : List (Option Mark) → ℕ → Option Turn
marked_last marks v = last_of (mark_at marks v)

-- a rank with its last turn: the start has rank 0 and none, any other node a turn from a node of one less
abbrev pub IsTraced : Space → ℕ → (ℕ → Option ℕ) → ℕ → ℕ → Option Turn → Type 0
IsTraced s start rank v zero last = (start ≡ v) × (last ≡ None)
IsTraced s start rank v (suc n) last = (t : Turn) × (last ≡ Some t) × LeadsTo s rank v n t

-- the first `filled` numbers of a list are the nodes with ranks, in the order of their ranks
pub record IsQueue (rank : ℕ → Option ℕ) (queue : List ℕ) (filled : ℕ) : Type 0 where
  pub holds : (i : ℕ) → i < filled → (n : ℕ) × (rank (slice_index queue i) ≡ Some n) × (n ≤ i)
  pub found : (v n : ℕ) → rank v ≡ Some n → (i : ℕ) × (i < filled) × (slice_index queue i ≡ v)
  pub order : (i m n : ℕ) → suc i < filled → rank (slice_index queue i) ≡ Some m → rank (slice_index queue (suc i)) ≡ Some n → m ≤ n

-- each rank has its last turn, and the nodes with ranks stand in the queue, the start first
pub record IsFound (s : Space) (marks : List (Option Mark)) (queue : List ℕ) (filled : ℕ) : Type 0 where
  pub begins : marked_rank marks (slice_index queue 0) ≡ Some 0
  pub traced : (v : ℕ) (m : Mark) → mark_at marks v ≡ Some m → IsTraced s (slice_index queue 0) (marked_rank marks) v m.rank m.last
  pub queued : IsQueue (marked_rank marks) queue filled
  pub some : 0 < filled
  pub count : filled + count_by is_none marks ≡ length marks

-- no rank is above n + 1
abbrev pub IsNear : List (Option Mark) → ℕ → Type 0
IsNear marks n = (v m : ℕ) → marked_rank marks v ≡ Some m → m ≤ suc n

-- the turn's end has a rank of at most n + 1, where the turn is usable
abbrev pub IsFollowed : Space → List (Option Mark) → ℕ → Turn → Type 0
IsFollowed s marks n t = IsUsable s t → (m : ℕ) × (marked_rank marks (turn_to s.net t) ≡ Some m) × (m ≤ suc n)

-- marks are kept, and the queue as far as it was filled
pub record IsMore (marks more : List (Option Mark)) (queue longer : List ℕ) (filled : ℕ) : Type 0 where
  pub keeps : (v n : ℕ) → marked_rank marks v ≡ Some n → marked_rank more v ≡ Some n
  pub stays : (i : ℕ) → i < filled → slice_index longer i ≡ slice_index queue i
