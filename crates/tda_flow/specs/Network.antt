-- What a net is: its nodes, its arcs and the terms of each arc.
use Rattle.std.specs.Prelude.{◌≡◌, ℕ, pos, ◌-◌, ◌≤◌, ◌<◌, ◌^◌, List, [], ◌∷◌, ◌++◌, length, slice_index_or, slice_set}
use Rattle.tda_loss.specs.Curve.{IsWithin}
use Rattle.tda_flow.specs.declared.net.Arc.{Arc}
use Rattle.tda_flow.specs.declared.net.Term.{Term}

-- node 0 is the hub
pub record Network : Type 0 where
  pub nodes : ℕ
  pub arcs : List Arc
  pub terms : List (List Term)

abbrev pub no_arc : Arc
no_arc = record { from = 0; to = 0; low = 0; high = 0 }

abbrev pub no_term : Term
no_term = record { weight = 0; target = pos 0 }

abbrev pub arc_count : Network → ℕ
arc_count net = length net.arcs

abbrev pub arc_at : Network → ℕ → Arc
arc_at net k = slice_index_or net.arcs k no_arc

abbrev pub terms_at : Network → ℕ → List Term
terms_at net k = slice_index_or net.terms k []

abbrev pub term_at : List Term → ℕ → Term
term_at terms j = slice_index_or terms j no_term

-- the net with one more arc, which has no terms
abbrev pub with_arc : Network → Arc → Network
with_arc net arc = record { nodes = net.nodes; arcs = net.arcs ++ arc ∷ []; terms = net.terms ++ [] ∷ [] }

-- the net with one more term on its last arc
abbrev pub with_term : Network → Term → Network
with_term net term =
    let last = arc_count net - 1 in
    record { nodes = net.nodes; arcs = net.arcs; terms = slice_set net.terms last (terms_at net last ++ term ∷ []) }

-- an arc that may stand in a net of n nodes: no bound passes 2^30
pub record IsArcOf (n : ℕ) (arc : Arc) : Type 0 where
  pub from : arc.from < n
  pub to : arc.to < n
  pub low : arc.low ≤ arc.high
  pub high : arc.high ≤ 2 ^ 30

-- a term that may stand in a net
pub record IsNetTerm (term : Term) : Type 0 where
  pub weight : term.weight ≤ 2 ^ 24
  pub target : IsWithin (2 ^ 31) term.target

-- terms that an arc may have
pub record AreNetTerms (terms : List Term) : Type 0 where
  pub few : length terms ≤ 8
  pub each : (j : ℕ) → j < length terms → IsNetTerm (term_at terms j)

-- what is true of each net
pub record IsSound (net : Network) : Type 0 where
  pub some_node : 1 ≤ net.nodes
  pub few_nodes : net.nodes ≤ 65536
  pub few_arcs : arc_count net ≤ 2 ^ 20
  pub lists : length net.terms ≡ arc_count net
  pub arcs : (k : ℕ) → k < arc_count net → IsArcOf net.nodes (arc_at net k)
  pub terms : (k : ℕ) → k < arc_count net → AreNetTerms (terms_at net k)
