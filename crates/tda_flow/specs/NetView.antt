-- What clauses see of a net, and what its fields keep.
use Rattle.std.specs.Prelude.{◌≡◌, ℕ, ◌*◌, ◌<◌, List, length, map}
use Rattle.tda_flow.specs.declared.net.Term.{Term}
use Rattle.tda_flow.specs.declared.net.Turn.{Turn}
use Rattle.tda_flow.specs.declared.links.Link.{Link}
use Rattle.tda_flow.specs.declared.links.Links.{Links}
use Rattle.tda_flow.specs.declared.lanes.Lane.{Lane}
use Rattle.tda_flow.specs.declared.net.Net.TheInside.{Inside}
use Rattle.tda_flow.specs.Network.{Network, IsSound, arc_at, arc_count}
use Rattle.tda_flow.specs.Turns.{IsLastBelow, turn_from, turn_number}
use Rattle.tda_flow.specs.Lanes.{arc_of, cut, AreInOrder}
use Rattle.tda_flow.specs.Links.{links_at, link_at, head_at, AreEndsOf}

-- the net that the fields stand for
abbrev pub seen : ℕ → List Lane → List Term → Network
seen nodes lanes terms = record { nodes = nodes; arcs = map arc_of lanes; terms = cut lanes terms }

abbrev pub network_of : Inside → Network
network_of net = seen net.nodes net.lanes.items net.terms.items

-- for each node the last turn of a number below n that begins there
abbrev pub AreHeads : Network → ℕ → List Link → Type 0
AreHeads net n heads = (v : ℕ) → IsLastBelow net v n (head_at heads v)

-- for each turn the one before it that begins at the same node
abbrev pub AreLinks : Network → List Links → Type 0
AreLinks net links = (t : Turn) → t.arc < arc_count net → IsLastBelow net (turn_from net t) (turn_number t) (link_at links t)

-- the ends of each arc
abbrev pub AreEnds : Network → List Links → Type 0
AreEnds net links = (k : ℕ) → k < arc_count net → AreEndsOf (arc_at net k) (links_at links k)

pub record IsKeptBy (net : Network) (lanes : List Lane) (links : List Links) (terms : List Term) (heads : List Link) : Type 0 where
  pub sound : IsSound net
  pub order : AreInOrder lanes (length terms)
  pub heads_last : AreHeads net (2 * arc_count net) heads
  pub links_count : length links ≡ arc_count net
  pub links_last : AreLinks net links
  pub links_ends : AreEnds net links

abbrev pub IsNet : Inside → Type 0
IsNet net = IsKeptBy (network_of net) net.lanes.items net.links.items net.terms.items net.heads.items
