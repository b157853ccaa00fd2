-- What the fields of a solver stand for, and what they keep.
use Rattle.std.specs.Prelude.{◌≤◌}
use Rattle.tda_cancel.specs.declared.cancel.Cancel.TheInside.{Inside}
use Rattle.tda_cancel.specs.Size.{Size}
use Rattle.tda_cancel.specs.Room.{HasRoom}

abbrev pub size_of : Inside → Size
size_of c = record { nodes = c.nodes; arcs = c.arcs }

pub record IsCancel (c : Inside) : Type 0 where
  pub nodes : c.nodes ≤ 2048
  pub arcs : c.arcs ≤ 65536
  pub room : HasRoom c.nodes c.arcs c.tables
