-- Rows of costs of nodes: each is the one before, lowered where a step of a list leads to less.
use Rattle.std.specs.Prelude.{ℕ, suc, ◌≡◌, ◌+◌, ◌*◌, ◌<◌, List, length, slice_index_or, Option, Some, None, ℤ, pos, ◌+ℤ◌, ◌≤ℤ◌, ◌<ℤ◌}
use Rattle.tda_cancel.specs.declared.steps.Step.{Step}
use Rattle.tda_cancel.specs.Steps.{step_at}

abbrev pub cost_at : List ℤ → ℕ → ℤ
cost_at costs v = slice_index_or costs v (pos 0)

abbrev pub last_at : List (Option ℕ) → ℕ → Option ℕ
last_at lasts k = slice_index_or lasts k None

-- step i of the first m lowers the cost of node v, and gives it
pub record IsLowered (steps : List Step) (m : ℕ) (before after : ℕ → ℤ) (v i : ℕ) : Type 0 where
  pub listed : i < m
  pub to : (step_at steps i).to ≡ v
  pub is : after v ≡ before (step_at steps i).from +ℤ (step_at steps i).cost
  pub less : after v <ℤ before v

-- the last step of a node whose cost is lowered, None for a node that keeps its cost
abbrev pub IsLast : List Step → ℕ → (ℕ → ℤ) → (ℕ → ℤ) → ℕ → Option ℕ → Type 0
IsLast steps m before after v None = after v ≡ before v
IsLast steps m before after v (Some i) = IsLowered steps m before after v i

-- the row after another, by the first m steps: no step leads to less, and each number is the old one or a step's
pub record IsNextRow (steps : List Step) (m n : ℕ) (before after : ℕ → ℤ) (lasts : ℕ → Option ℕ) : Type 0 where
  pub under : (i : ℕ) → i < m → after (step_at steps i).to ≤ℤ (before (step_at steps i).from +ℤ (step_at steps i).cost)
  pub last : (v : ℕ) → v < n → IsLast steps m before after v (lasts v)

-- the last steps of the first `count` rows of n nodes each, with the costs that these rows have
abbrev pub IsTable : List Step → ℕ → List (Option ℕ) → ℕ → Type 0
IsTable steps n lasts count =
    (rows : ℕ → ℕ → ℤ) × ((j : ℕ) → j < count → IsNextRow steps (length steps) n (rows j) (rows (suc j)) (λ v. last_at lasts (j * n + v)))

-- no step lowers a cost
abbrev pub IsSettled : List Step → List ℤ → Type 0
IsSettled steps costs =
    (i : ℕ) → i < length steps → cost_at costs (step_at steps i).to ≤ℤ (cost_at costs (step_at steps i).from +ℤ (step_at steps i).cost)
