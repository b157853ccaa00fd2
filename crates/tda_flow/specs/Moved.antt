-- What a step of flow along a walk changes on any net. The flow before and the one after are lists.
use Rattle.std.specs.Prelude.{◌≡◌, ℕ, ◌==◌, cond, List, All, length, ℤ, pos, ◌+ℤ◌, ◌-ℤ◌, ◌≤ℤ◌}
use Rattle.tda_loss.specs.Curve.{IsConvex}
use Rattle.tda_flow.specs.declared.net.Turn.{Turn}
use Rattle.tda_flow.specs.Network.{Network, arc_count}
use Rattle.tda_flow.specs.Flow.{into, out_of, cost}
use Rattle.tda_flow.specs.Walk.{Space, IsUsable, IsBounded, Follows, IsDistinct, IsApart, walk_cost}

-- What comes into a node, less what goes out of it, changes at the ends of the walk alone: the last node has d more, the
-- first one d less.
abbrev pub ShiftsEnds : List Turn → ℕ → List ℕ → List ℕ → Type 0
ShiftsEnds ts d before more =
    (net : Network) (a b v : ℕ) → length before ≡ arc_count net → Follows net a ts b
    → (into net more v -ℤ out_of net more v)
    ≡ (into net before v -ℤ out_of net before v) +ℤ cond (b == v) (pos d) (pos 0) -ℤ cond (a == v) (pos d) (pos 0)

-- a flow on a net, with bounds for each arc and the size of a step
abbrev pub space_on : Network → (ℕ → ℕ) → (ℕ → ℕ) → ℕ → List ℕ → Space
space_on net low high d flow = record { net = net; flow = flow; low = low; high = high; step = d }

-- the flow is within the bounds, each turn leaves room for a step, and none comes twice
pub record HasRoom (s : Space) (ts : List Turn) : Type 0 where
  pub bounded : IsBounded s
  pub usable : All (IsUsable s) ts
  pub distinct : IsDistinct ts

-- where there is room, the flow stays within the bounds
abbrev pub StaysBounded : List Turn → ℕ → List ℕ → List ℕ → Type 0
StaysBounded ts d before more =
    (net : Network) (low high : ℕ → ℕ) → HasRoom (space_on net low high d before) ts → IsBounded (space_on net low high d more)

-- where there is room, the cost by a convex curve rises by no more than the walk's
abbrev pub CostsAtMost : List Turn → ℕ → List ℕ → List ℕ → Type 0
CostsAtMost ts d before more =
    (curve : ℤ → ℤ) → IsConvex curve → (net : Network) (low high : ℕ → ℕ) → HasRoom (space_on net low high d before) ts
    → cost curve net more ≤ℤ (cost curve net before +ℤ walk_cost curve net d before ts)

-- where no arc comes twice, the cost rises by just the walk's
abbrev pub CostsExactly : List Turn → ℕ → List ℕ → List ℕ → Type 0
CostsExactly ts d before more =
    (curve : ℤ → ℤ) (net : Network) → length before ≡ arc_count net → IsApart ts
    → cost curve net more ≡ cost curve net before +ℤ walk_cost curve net d before ts
