-- The usable turns of a circulation, each with what one unit along it costs.
use Rattle.std.specs.Prelude.{ℕ, ◌≡◌, ◌<◌, ◌≤◌, ◌^◌, List, length, slice_index_or, false, ℤ, pos}
use Rattle.tda_loss.specs.Curve.{IsWithin}
use Rattle.tda_flow.specs.declared.net.Turn.{Turn}
use Rattle.tda_flow.specs.Network.{Network}
use Rattle.tda_flow.specs.Turns.{turn_from, turn_to, turn_number}
use Rattle.tda_flow.specs.Walk.{IsUsable, net_space, turn_cost}
use Rattle.tda_cancel.specs.declared.steps.Step.{Step}

abbrev pub no_step : Step
no_step = record { turn = record { arc = 0; back = false }; from = 0; to = 0; cost = pos 0 }

abbrev pub step_at : List Step → ℕ → Step
step_at steps i = slice_index_or steps i no_step

-- one unit along a usable turn, with its ends and its cost
pub record IsStep (curve : ℤ → ℤ) (net : Network) (flow : List ℕ) (s : Step) : Type 0 where
  pub usable : IsUsable (net_space net flow 1) s.turn
  pub from : s.from ≡ turn_from net s.turn
  pub to : s.to ≡ turn_to net s.turn
  pub cost : s.cost ≡ turn_cost curve net 1 flow s.turn
  pub near : IsWithin (2 ^ 61) s.cost

-- the steps along the usable turns of a number below n, and no others
pub record AreSteps (curve : ℤ → ℤ) (net : Network) (flow : List ℕ) (n : ℕ) (steps : List Step) : Type 0 where
  pub each : (i : ℕ) → i < length steps → IsStep curve net flow (step_at steps i)
  pub all : (t : Turn) → IsUsable (net_space net flow 1) t → turn_number t < n → (i : ℕ) × (i < length steps) × ((step_at steps i).turn ≡ t)
  pub few : length steps ≤ n

-- steps between nodes below n, each of a cost within 2^61 either way
pub record AreBetween (n : ℕ) (steps : List Step) : Type 0 where
  pub from : (i : ℕ) → i < length steps → (step_at steps i).from < n
  pub to : (i : ℕ) → i < length steps → (step_at steps i).to < n
  pub near : (i : ℕ) → i < length steps → IsWithin (2 ^ 61) (step_at steps i).cost
