-- The turns of a net: each arc passed forwards, or backwards. They are counted arc by arc, forwards first.
use Rattle.std.specs.Prelude.{◌≡◌, ℕ, ◌+◌, ◌*◌, ◌<◌, Option, Some, None, cond}
use Rattle.tda_flow.specs.declared.net.Turn.{Turn}
use Rattle.tda_flow.specs.Network.{Network, arc_count, arc_at}

-- where a turn begins, and where it ends
abbrev pub turn_from : Network → Turn → ℕ
turn_from net t = cond t.back (arc_at net t.arc).to (arc_at net t.arc).from

abbrev pub turn_to : Network → Turn → ℕ
turn_to net t = cond t.back (arc_at net t.arc).from (arc_at net t.arc).to

-- a turn of the net that begins at node v
pub record Leaves (net : Network) (v : ℕ) (t : Turn) : Type 0 where
  pub arc : t.arc < arc_count net
  pub from : turn_from net t ≡ v

abbrev pub turn_number : Turn → ℕ
turn_number t = 2 * t.arc + cond t.back 1 0

-- one more than the number of a turn, or 0 for none
abbrev pub turn_limit : Option Turn → ℕ
turn_limit None = 0
turn_limit (Some t) = turn_number t + 1

-- the turn of the greatest number below n that begins at v, or None where there is none
pub record IsLastBelow (net : Network) (v n : ℕ) (found : Option Turn) : Type 0 where
  pub leaves : (t : Turn) → found ≡ Some t → Leaves net v t
  pub below : (t : Turn) → found ≡ Some t → turn_number t < n
  pub last : (t : Turn) → Leaves net v t → turn_number t < n → turn_number t < turn_limit found
