-- What a net keeps of its arcs with their terms.
use Rattle.std.specs.Prelude.{ℕ, ◌≤◌, List, [], ◌∷◌, length, slice_index_or}
use Rattle.std.specs.List.{slice_range}
use Rattle.tda_flow.specs.declared.net.Arc.{Arc}
use Rattle.tda_flow.specs.declared.net.Term.{Term}
use Rattle.tda_flow.specs.declared.lanes.Lane.{Lane}
use Rattle.tda_flow.specs.Network.{no_arc}

abbrev pub arc_of : Lane → Arc
arc_of lane = lane.arc

-- where the terms of the first of these lanes begin, in a list of n terms
abbrev pub start_of : List Lane → ℕ → ℕ
start_of [] n = n
start_of (lane ∷ lanes) n = lane.first_term

-- the terms of each lane: from its first term to that of the next lane
abbrev pub cut : List Lane → List Term → List (List Term)
cut [] terms = []
cut (lane ∷ lanes) terms = slice_range terms lane.first_term (start_of lanes (length terms)) ∷ cut lanes terms

-- the terms of the lanes follow one another in a list of n terms
abbrev pub AreInOrder : List Lane → ℕ → Type 0
AreInOrder [] n = Unit {0}
AreInOrder (lane ∷ lanes) n = (lane.first_term ≤ start_of lanes n) × (start_of lanes n ≤ n) × AreInOrder lanes n

abbrev pub no_lane : Lane
no_lane = record { arc = no_arc; first_term = 0 }

abbrev pub lane_at : List Lane → ℕ → Lane
lane_at lanes i = slice_index_or lanes i no_lane
