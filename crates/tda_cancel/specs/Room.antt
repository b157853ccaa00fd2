-- The sizes of tables, and the costs that they end with.
use Rattle.std.specs.Prelude.{ℕ, ◌*◌, ◌≤◌, List, vec_len, vec_capacity, ℤ, ◌+ℤ◌, ◌≤ℤ◌}
use Rattle.tda_flow.specs.declared.net.Turn.{Turn}
use Rattle.tda_flow.specs.Network.{Network}
use Rattle.tda_flow.specs.Turns.{turn_from, turn_to}
use Rattle.tda_flow.specs.Walk.{IsUsable, net_space, turn_cost}
use Rattle.tda_cancel.specs.declared.tables.Tables.{Tables}

-- the tables have room for nets of n nodes and m arcs
pub record HasRoom (n m : ℕ) (t : Tables) : Type 0 where
  pub steps : 2 * m ≤ vec_capacity t.steps
  pub costs : n ≤ vec_len t.costs
  pub before : n ≤ vec_len t.before
  pub lasts : n * n ≤ vec_len t.lasts
  pub marks : n ≤ vec_len t.marks
  pub walk : n ≤ vec_len t.walk

-- no usable turn leads to a node at less than the node's cost
abbrev pub NoneLowers : (ℤ → ℤ) → Network → List ℕ → (ℕ → ℤ) → Type 0
NoneLowers curve net flow costs =
    (t : Turn) → IsUsable (net_space net flow 1) t → costs (turn_to net t) ≤ℤ (costs (turn_from net t) +ℤ turn_cost curve net 1 flow t)
