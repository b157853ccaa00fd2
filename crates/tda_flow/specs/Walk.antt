-- Walks over the arcs of a net, and steps of flow along them.
use Rattle.std.specs.Prelude.{◌≡◌, ℕ, ◌+◌, ◌-◌, ◌^◌, ◌≤◌, ◌<◌, cond, List, [], ◌∷◌, All, slice_index, slice_set, length, IsTrue, IsFalse, ℤ, pos, ◌+ℤ◌, ◌-ℤ◌}
use Rattle.tda_flow.specs.declared.net.Turn.{Turn}
use Rattle.tda_flow.specs.Network.{Network, arc_count, arc_at, terms_at}
use Rattle.tda_flow.specs.Turns.{turn_from, turn_to}
use Rattle.tda_flow.specs.Flow.{arc_cost}

-- the turns follow one another from a to b
abbrev pub Follows : Network → ℕ → List Turn → ℕ → Type 0
Follows net a [] b = a ≡ b
Follows net a (t ∷ ts) b = (turn_from net t ≡ a) × Follows net (turn_to net t) ts b

-- a flow x on the arc of a turn, after a step of size d along the turn
abbrev pub stepped : Turn → ℕ → ℕ → ℕ
stepped t d x = cond t.back (x - d) (x + d)

-- the flow after a step of size d along a turn
abbrev pub bumped : Turn → ℕ → List ℕ → List ℕ
bumped t d flow = slice_set flow t.arc (stepped t d (slice_index flow t.arc))

-- the flow after a step along each turn of a walk
abbrev pub moved : List Turn → ℕ → List ℕ → List ℕ
moved [] d flow = flow
moved (t ∷ ts) d flow = moved ts d (bumped t d flow)

-- a flow on a net, with bounds for each arc and the size of a step
pub record Space : Type 0 where
  pub net : Network
  pub flow : List ℕ
  pub low : ℕ → ℕ
  pub high : ℕ → ℕ
  pub step : ℕ

-- a flow within the bounds of the net
abbrev pub net_space : Network → List ℕ → ℕ → Space
net_space net flow d = record { net = net; flow = flow; low = λ k. (arc_at net k).low; high = λ k. (arc_at net k).high; step = d }

-- the turn passes an arc of the net, on which a step leaves the flow within the bounds
pub record IsUsable (s : Space) (t : Turn) : Type 0 where
  pub arc : t.arc < arc_count s.net
  pub forwards : IsFalse t.back → slice_index s.flow t.arc + s.step ≤ s.high t.arc
  pub backwards : IsTrue t.back → s.low t.arc + s.step ≤ slice_index s.flow t.arc

-- a walk from a to b over usable turns
pub record IsWalk (s : Space) (a : ℕ) (ts : List Turn) (b : ℕ) : Type 0 where
  pub follows : Follows s.net a ts b
  pub usable : All (IsUsable s) ts

-- there is one flow for each arc, and it is within the bounds
pub record IsBounded (s : Space) : Type 0 where
  pub length_is : length s.flow ≡ arc_count s.net
  pub low : (k : ℕ) → k < arc_count s.net → s.low k ≤ slice_index s.flow k
  pub high : (k : ℕ) → k < arc_count s.net → slice_index s.flow k ≤ s.high k

-- after a step along each turn of a walk
abbrev pub after : Space → List Turn → Space
after s ts = record s { flow = moved ts s.step s.flow }

-- no turn of the list is t
abbrev pub Misses : Turn → List Turn → Type 0
Misses t [] = Unit {0}
Misses t (u ∷ us) = (u ≡ t → ⊥) × Misses t us

-- no turn comes twice
abbrev pub IsDistinct : List Turn → Type 0
IsDistinct [] = Unit {0}
IsDistinct (t ∷ ts) = Misses t ts × IsDistinct ts

-- no turn of the list passes arc k
abbrev pub AvoidsArc : ℕ → List Turn → Type 0
AvoidsArc k [] = Unit {0}
AvoidsArc k (t ∷ ts) = (t.arc ≡ k → ⊥) × AvoidsArc k ts

-- no arc comes twice
abbrev pub IsApart : List Turn → Type 0
IsApart [] = Unit {0}
IsApart (t ∷ ts) = AvoidsArc t.arc ts × IsApart ts

-- no turn of the list begins at node v
abbrev pub AvoidsStart : Network → ℕ → List Turn → Type 0
AvoidsStart net v [] = Unit {0}
AvoidsStart net v (t ∷ ts) = (turn_from net t ≡ v → ⊥) × AvoidsStart net v ts

-- no two turns begin at one node
abbrev pub IsSimple : Network → List Turn → Type 0
IsSimple net [] = Unit {0}
IsSimple net (t ∷ ts) = AvoidsStart net (turn_from net t) ts × IsSimple net ts

-- what a step of size d along a turn costs
abbrev pub turn_cost : (ℤ → ℤ) → Network → ℕ → List ℕ → Turn → ℤ
turn_cost curve net d flow t =
    arc_cost curve (terms_at net t.arc) (stepped t d (slice_index flow t.arc)) -ℤ arc_cost curve (terms_at net t.arc) (slice_index flow t.arc)

-- the cost of a walk: that of each turn, at the flow as it was at first
abbrev pub walk_cost : (ℤ → ℤ) → Network → ℕ → List ℕ → List Turn → ℤ
walk_cost curve net d flow [] = pos 0
walk_cost curve net d flow (t ∷ ts) = turn_cost curve net d flow t +ℤ walk_cost curve net d flow ts

-- each turn of a walk has a flow, and where it is taken a step leaves it from 0 to below 2^64
abbrev pub CanMove : ℕ → List ℕ → List Turn → Type 0
CanMove d flow [] = Unit {0}
CanMove d flow (t ∷ ts) =
    (t.arc < length flow)
    × (IsTrue t.back → d ≤ slice_index flow t.arc)
    × (IsFalse t.back → slice_index flow t.arc + d < 2 ^ 64)
    × CanMove d (bumped t d flow) ts
