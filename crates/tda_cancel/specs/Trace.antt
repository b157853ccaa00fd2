-- Walks by steps of a list.
use Rattle.std.specs.Prelude.{ℕ, ◌≡◌, ◌≢◌, ◌<◌, List, [], ◌∷◌, length, map, ℤ, pos, ◌+ℤ◌, ◌<ℤ◌}
use Rattle.tda_flow.specs.declared.net.Turn.{Turn}
use Rattle.tda_cancel.specs.declared.steps.Step.{Step}
use Rattle.tda_cancel.specs.Steps.{step_at}

-- the steps of these places follow one another from a to b
abbrev pub IsPath : List Step → ℕ → List ℕ → ℕ → Type 0
IsPath steps a [] b = a ≡ b
IsPath steps a (i ∷ is) b = (i < length steps) × ((step_at steps i).from ≡ a) × IsPath steps (step_at steps i).to is b

abbrev pub path_cost : List Step → List ℕ → ℤ
path_cost steps [] = pos 0
path_cost steps (i ∷ is) = (step_at steps i).cost +ℤ path_cost steps is

abbrev pub path_turns : List Step → List ℕ → List Turn
path_turns steps is = map (λ i. (step_at steps i).turn) is

-- none of these steps begins at node v
abbrev pub AvoidsNode : List Step → ℕ → List ℕ → Type 0
AvoidsNode steps v [] = Unit {0}
AvoidsNode steps v (i ∷ is) = ((step_at steps i).from ≢ v) × AvoidsNode steps v is

-- no two of these steps begin at one node
abbrev pub PassesOnce : List Step → List ℕ → Type 0
PassesOnce steps [] = Unit {0}
PassesOnce steps (i ∷ is) = AvoidsNode steps (step_at steps i).from is × PassesOnce steps is

-- the turns of a closed walk of negative cost that passes no node twice
pub record IsLosing (steps : List Step) (ts : List Turn) : Type 0 where
  pub node : ℕ
  pub path : List ℕ
  pub turns : ts ≡ path_turns steps path
  pub closed : IsPath steps node path node
  pub simple : PassesOnce steps path
  pub cost : path_cost steps path <ℤ pos 0
