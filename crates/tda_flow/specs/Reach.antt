-- The least numbers of turns of walks from a start, and the last turns of such walks.
use Rattle.std.specs.Prelude.{◌≡◌, ℕ, suc, ◌≤◌, ◌<◌, List, [], ◌∷◌, ◌++◌, All, length, Option, Some, None}
use Rattle.tda_flow.specs.declared.net.Turn.{Turn}
use Rattle.tda_flow.specs.Walk.{Space, IsUsable, IsWalk}
use Rattle.tda_flow.specs.Network.{Network}
use Rattle.tda_flow.specs.Turns.{turn_from, turn_to}

-- t is usable and leads to v, from a node of rank n
pub record LeadsTo (s : Space) (rank : ℕ → Option ℕ) (v n : ℕ) (t : Turn) : Type 0 where
  pub usable : IsUsable s t
  pub to : turn_to s.net t ≡ v
  pub from : rank (turn_from s.net t) ≡ Some n

-- Ranks and last turns of nodes. A rank is the number of turns of a walk from the start to the node,
-- no walk there has fewer, and a node without a rank has no walk. The last turn of a node comes from
-- a node whose rank is one less; the start and nodes without a rank have none.
pub record IsSearched (s : Space) (start : ℕ) (rank : ℕ → Option ℕ) (last : ℕ → Option Turn) : Type 0 where
  pub walks : (v n : ℕ) → rank v ≡ Some n → (ts : List Turn) × IsWalk s start ts v × (length ts ≡ n)
  pub least : (v : ℕ) (ts : List Turn) → IsWalk s start ts v → (n : ℕ) × (rank v ≡ Some n) × (n ≤ length ts)
  pub below : (v n : ℕ) → rank v ≡ Some n → n < s.net.nodes
  pub turn : (v n : ℕ) → rank v ≡ Some (suc n) → (t : Turn) × (last v ≡ Some t) × LeadsTo s rank v n t
  pub first : (v : ℕ) → rank v ≡ Some 0 → last v ≡ None
  pub none : (v : ℕ) → rank v ≡ None → last v ≡ None

-- ranks and last turns that some search on the net gave
abbrev pub WasSearched : Network → (ℕ → Option ℕ) → (ℕ → Option Turn) → Type 0
WasSearched net rank last = (s : Space) × (start : ℕ) × (s.net ≡ net) × IsSearched s start rank last

-- a walk to v from the start, within the bounds, of each search on the net that gave these ranks and last turns
abbrev pub IsFoundWalk : Network → (ℕ → Option ℕ) → (ℕ → Option Turn) → List Turn → ℕ → Type 0
IsFoundWalk net rank last ts v = (s : Space) (start : ℕ) → s.net ≡ net → IsSearched s start rank last → IsWalk s start ts v

-- t is the last turn of a walk from the start to v, with as many turns as the rank of v
abbrev pub EndsLeastWalk : Space → ℕ → (ℕ → Option ℕ) → ℕ → Turn → Type 0
EndsLeastWalk s start rank v t = (ts : List Turn) × IsWalk s start (ts ++ t ∷ []) v × (rank v ≡ Some (suc (length ts)))

-- each turn is the last turn of the node where it ends
abbrev pub AreLasts : Network → (ℕ → Option Turn) → List Turn → Type 0
AreLasts net last ts = All (λ (t : Turn). last (turn_to net t) ≡ Some t) ts
