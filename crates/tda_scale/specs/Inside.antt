-- What the fields of a solver stand for, and what they keep.
use Rattle.std.specs.Prelude.{◌≤◌, ◌^◌, Bool, true, vec_capacity}
use Rattle.tda_loss.specs.declared.Curve.{Curve}
use Rattle.tda_loss.specs.declared.Curve.TheVariants.{Square}
use Rattle.tda_scale.specs.declared.scale.Scale.TheInside.{Inside}
use Rattle.tda_scale.specs.Size.{Size}
use Rattle.tda_scale.specs.Phase.{HasRoom}

abbrev pub size_of : Inside → Size
size_of s = record { nodes = s.nodes; arcs = s.arcs }

pub record IsScale (s : Inside) : Type 0 where
  pub nodes : s.nodes ≤ 65536
  pub arcs : s.arcs ≤ 2 ^ 20
  pub slopes : s.arcs ≤ vec_capacity s.slopes
  pub room : HasRoom s.nodes s.arcs s.tables

-- the curve is the square
abbrev pub is_square : Curve → Bool
is_square Square = true
