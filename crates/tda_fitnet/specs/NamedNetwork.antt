-- A net whose arcs have names, as a list of named arcs.
use Rattle.std.specs.Prelude.{◌≡◌, ℕ, List, [], ◌∷◌, ◌++◌, length, map}
use Rattle.tda_flow.specs.declared.net.Arc.{Arc}
use Rattle.tda_flow.specs.declared.net.Term.{Term}
use Rattle.tda_flow.specs.Network.{Network, arc_count}
use Rattle.tda_fitnet.specs.declared.name.ArcName.{ArcName}
use Rattle.tda_fitnet.specs.Arcs.{NamedArc}

pub record NamedNetwork : Type 0 where
  pub nodes : ℕ
  pub arcs : List NamedArc

-- arcs and their terms beside their names
abbrev pub beside : List ArcName → List Arc → List (List Term) → List NamedArc
beside (n ∷ ns) (a ∷ arcs) (t ∷ terms) = record { name = n; arc = a; terms = t } ∷ beside ns arcs terms
beside ns arcs terms = []

abbrev pub with_names : Network → List ArcName → NamedNetwork
with_names net names = record { nodes = net.nodes; arcs = beside names net.arcs net.terms }

-- and the net of named arcs
abbrev pub net_of : NamedNetwork → Network
net_of n = record { nodes = n.nodes; arcs = map (λ a. a.arc) n.arcs; terms = map (λ a. a.terms) n.arcs }

-- as many names as arcs, and as many lists of terms
pub record AreBeside (net : Network) (names : List ArcName) : Type 0 where
  pub count : length names ≡ arc_count net
  pub terms : length net.terms ≡ arc_count net

-- one more arc
abbrev pub with_named_arc : NamedNetwork → NamedArc → NamedNetwork
with_named_arc n a = record { nodes = n.nodes; arcs = n.arcs ++ a ∷ [] }

-- the arc with one more term
abbrev pub more_term : NamedArc → Term → NamedArc
more_term a t = record { name = a.name; arc = a.arc; terms = a.terms ++ t ∷ [] }

-- and with several
abbrev pub with_terms : NamedArc → List Term → NamedArc
with_terms a ts = record { name = a.name; arc = a.arc; terms = a.terms ++ ts }
