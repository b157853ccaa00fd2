-- What a net keeps of its turns.
use Rattle.std.specs.Prelude.{◌≡◌, ℕ, List, Option, Some, None, true, false, cond, slice_index_or}
use Rattle.tda_flow.specs.declared.net.Arc.{Arc}
use Rattle.tda_flow.specs.declared.net.Turn.{Turn}
use Rattle.tda_flow.specs.declared.links.Link.{Link}
use Rattle.tda_flow.specs.declared.links.Link.TheVariants.{End, Forth, Back}
use Rattle.tda_flow.specs.declared.links.Links.{Links}

-- the turn that a link leads to
abbrev pub turn_of : Link → Option Turn
turn_of End = None
turn_of (Forth k) = Some (record { arc = k; back = false })
turn_of (Back k) = Some (record { arc = k; back = true })

-- the first turn at node v, None for a node past the list
abbrev pub head_at : List Link → ℕ → Option Turn
head_at heads v = turn_of (slice_index_or heads v End)

abbrev pub no_links : Links
no_links = record { from = 0; to = 0; next_forth = End; next_back = End }

abbrev pub links_at : List Links → ℕ → Links
links_at links i = slice_index_or links i no_links

-- what the links of an arc name as the next turn after one over it
abbrev pub next_in : Links → Turn → Option Turn
next_in links t = cond t.back (turn_of links.next_back) (turn_of links.next_forth)

abbrev pub link_at : List Links → Turn → Option Turn
link_at links t = next_in (links_at links t.arc) t

-- the links name the ends of their arc
pub record AreEndsOf (arc : Arc) (links : Links) : Type 0 where
  pub from : links.from ≡ arc.from
  pub to : links.to ≡ arc.to
