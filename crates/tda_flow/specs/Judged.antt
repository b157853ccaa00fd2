-- The first bad arc.
use Rattle.std.specs.Prelude.{ℕ, ◌<◌, List, ℤ}
use Rattle.tda_flow.specs.declared.judge.BadArc.{BadArc}
use Rattle.tda_flow.specs.declared.judge.Side.{Side}
use Rattle.tda_flow.specs.declared.judge.Side.TheVariants.{Up, Down}
use Rattle.tda_flow.specs.Network.{Network, arc_count}
use Rattle.tda_flow.specs.Certificate.{IsBadUp, IsBadDown, NoneBadBelow}

-- an arc is bad on this side, Up being asked before Down
abbrev pub IsBadOn : (ℤ → ℤ) → Network → List ℕ → List ℤ → ℕ → Side → Type 0
IsBadOn curve net flow prices k Up = IsBadUp curve net flow prices k
IsBadOn curve net flow prices k Down = (¬ (IsBadUp curve net flow prices k)) × IsBadDown curve net flow prices k

-- the first bad arc, with its side
pub record IsFirstBad (curve : ℤ → ℤ) (net : Network) (flow : List ℕ) (prices : List ℤ) (bad : BadArc) : Type 0 where
  pub arc : bad.arc < arc_count net
  pub before : NoneBadBelow curve net flow prices bad.arc
  pub here : IsBadOn curve net flow prices bad.arc bad.side
