-- Circulations and what they cost.
use Rattle.std.specs.Prelude.{◌≡◌, ℕ, ◌≤◌, ◌<◌, List, length, slice_index, cond, ◌==◌, ℤ, pos, ◌-ℤ◌, ◌*ℤ◌, ◌≤ℤ◌}
use Rattle.tda_flow.specs.Sum.{sum_below}
use Rattle.tda_flow.specs.declared.net.Term.{Term}
use Rattle.tda_flow.specs.Network.{Network, arc_count, arc_at, terms_at, term_at}

-- what comes into a node, and what goes out of it
unfoldable pub into : Network → List ℕ → ℕ → ℤ
into net flow v = sum_below (arc_count net) (λ k. cond ((arc_at net k).to == v) (pos (slice_index flow k)) (pos 0))

unfoldable pub out_of : Network → List ℕ → ℕ → ℤ
out_of net flow v = sum_below (arc_count net) (λ k. cond ((arc_at net k).from == v) (pos (slice_index flow k)) (pos 0))

-- each flow is within the bounds of its arc
abbrev pub IsWithinBounds : Network → List ℕ → Type 0
IsWithinBounds net flow =
    (k : ℕ) → k < arc_count net → ((arc_at net k).low ≤ slice_index flow k) × (slice_index flow k ≤ (arc_at net k).high)

-- one flow for each arc, within its bounds, such that at each node what comes in goes out
pub record IsCirculation (net : Network) (flow : List ℕ) : Type 0 where
  pub count : length flow ≡ arc_count net
  pub within : IsWithinBounds net flow
  pub balanced : (v : ℕ) → v < net.nodes → into net flow v ≡ out_of net flow v

-- what the flow x costs at a term
abbrev pub term_cost : (ℤ → ℤ) → Term → ℕ → ℤ
term_cost curve term x = pos term.weight *ℤ curve (pos x -ℤ term.target)

-- what the flow x costs on an arc with these terms
unfoldable pub arc_cost : (ℤ → ℤ) → List Term → ℕ → ℤ
arc_cost curve terms x = sum_below (length terms) (λ j. term_cost curve (term_at terms j) x)

unfoldable pub cost : (ℤ → ℤ) → Network → List ℕ → ℤ
cost curve net flow = sum_below (arc_count net) (λ k. arc_cost curve (terms_at net k) (slice_index flow k))

-- a circulation than which no circulation of the net costs less
abbrev pub IsLeast : (ℤ → ℤ) → Network → List ℕ → Type 0
IsLeast curve net flow = (other : List ℕ) → IsCirculation net other → cost curve net flow ≤ℤ cost curve net other
