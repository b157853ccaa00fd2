-- The networks of fits: their arcs, each with what it stands for.
use Rattle.std.specs.Prelude.{ℕ, ◌+◌, ◌==◌, if◌then◌else◌, List, [], length, map, slice_index}
use Rattle.tda_model.specs.Schema.{Level}
use Rattle.tda_model.specs.Cells.{kind_of, possible_cells}
use Rattle.tda_model.specs.Groups.{kind_count}
use Rattle.tda_model.specs.Spine.{level_of, children_of, units_at, nation_of}
use Rattle.tda_model.specs.Tables.{Table}
use Rattle.tda_model.specs.Bounds.{persons_limit, low, high}
use Rattle.tda_model.specs.Release.{Inputs}
use Rattle.tda_schema.specs.Stated.{level_at}
use Rattle.tda_flow.specs.declared.net.Arc.{Arc}
use Rattle.tda_flow.specs.declared.net.Term.{Term}
use Rattle.tda_flow.specs.Network.{Network}
use Rattle.tda_groups.specs.Order.{group_at}
use Rattle.tda_fitnet.specs.declared.name.ArcName.{ArcName}
use Rattle.tda_fitnet.specs.declared.name.ArcName.TheVariants.{Fixed, Share, Give, Group}
use Rattle.tda_fitnet.specs.declared.layout.Layout.{Layout}
use Rattle.tda_fitnet.specs.Layout.{layout_list, node_number, hub, source_node, kind_node, group_node}
use Rattle.tda_groups.specs.Chains.{smallest_of, next_of}
use Rattle.tda_fitnet.specs.Terms.{terms_of, group_low, group_high}

pub record NamedArc : Type 0 where
  pub name : ArcName
  pub arc : Arc
  pub terms : List Term

abbrev pub plain_arc : ArcName → ℕ → ℕ → ℕ → ℕ → NamedArc
plain_arc name from to low high = record { name = name; arc = record { from = from; to = to; low = low; high = high }; terms = [] }

-- from the hub to a source's node, just this amount
abbrev pub source_arc : ℕ → ℕ → NamedArc
source_arc n amount = plain_arc Fixed hub (source_node n) amount amount

-- the persons of a kind in a state, whose source is the n-th
abbrev pub share_arc : Inputs → Layout → ℕ → ℕ → ℕ → NamedArc
share_arc i l n state k = plain_arc (Share state k) (source_node n) (kind_node l k) (low i.spine i.known state k) (high i.spine i.known state k)

-- the persons of a cell in the u-th unit, to the cell's smallest group there
abbrev pub give_arc : Layout → List (List ℕ) → ℕ → ℕ → ℕ → ℕ → NamedArc
give_arc l groups from u unit cell = plain_arc (Give unit cell) from (group_node l u (smallest_of groups cell)) 0 persons_limit

-- from a group of the u-th unit to the next larger one, and from the group of all possible cells to the hub
abbrev pub group_end : Layout → List (List ℕ) → ℕ → ℕ → ℕ
group_end l groups u g = if g == 0 then hub else group_node l u (next_of groups g)

abbrev pub group_arc : Inputs → Layout → List (List ℕ) → Level → ℕ → ℕ → ℕ → ℕ → ℕ → NamedArc
group_arc i l groups level u unit g low high = record {
  name = Group unit g;
  arc = record { from = group_node l u g; to = group_end l groups u g; low = low; high = high };
  terms = terms_of i level unit (group_at groups g);
}

abbrev pub network_of : Layout → List NamedArc → Network
network_of l arcs = record { nodes = node_number l; arcs = map (λ a. a.arc) arcs; terms = map (λ a. a.terms) arcs }

-- ---- the root fit: of the nation, with shares of each state and kind
abbrev pub states : Inputs → List ℕ
states i = units_at i.spine 1

abbrev pub root_layout : Inputs → List (List ℕ) → Layout
root_layout i groups = record {
  sources = length (states i);
  states = length (states i);
  kinds = kind_count i.schema;
  units = 1;
  cells = length (possible_cells i.schema);
  groups = length groups;
}

abbrev pub state_at : Inputs → ℕ → ℕ
state_at i n = slice_index (states i) n

abbrev pub cell_at : Inputs → ℕ → ℕ
cell_at i r = slice_index (possible_cells i.schema) r

abbrev pub root_arcs : Inputs → List (List ℕ) → List NamedArc
root_arcs i groups =
    let l = root_layout i groups in
    let nation = nation_of i.spine in
    layout_list l
    (λ n. source_arc n (i.known.total (state_at i n)))
    (λ n k. share_arc i l n (state_at i n) k)
    (λ u r. give_arc l groups (kind_node l (kind_of i.schema (cell_at i r))) u nation (cell_at i r))
    (λ u g. group_arc i l groups (level_at i.schema 0) u nation g 0 persons_limit)

abbrev pub root_network : Inputs → List (List ℕ) → Network
root_network i groups = network_of (root_layout i groups) (root_arcs i groups)

-- ---- the split of a unit's table among its children
abbrev pub child_at : Inputs → ℕ → ℕ → ℕ
child_at i p u = slice_index (children_of i.spine p) u

abbrev pub split_layout : Inputs → List (List ℕ) → ℕ → Layout
split_layout i groups p = record {
  sources = length (possible_cells i.schema);
  states = 0;
  kinds = 0;
  units = length (children_of i.spine p);
  cells = length (possible_cells i.schema);
  groups = length groups;
}

abbrev pub split_arcs : Inputs → List (List ℕ) → ℕ → Table → List NamedArc
split_arcs i groups p x =
    let l = split_layout i groups p in
    layout_list l
    (λ r. source_arc r (x (cell_at i r)))
    (λ n k. share_arc i l n n k)
    (λ u r. give_arc l groups (source_node r) u (child_at i p u) (cell_at i r))
    (λ u g. group_arc i l groups (level_at i.schema (level_of i.spine p + 1)) u (child_at i p u) g
    (group_low i (child_at i p u) g (group_at groups g)) (group_high i (child_at i p u) g (group_at groups g)))

abbrev pub split_network : Inputs → List (List ℕ) → ℕ → Table → Network
split_network i groups p x = network_of (split_layout i groups p) (split_arcs i groups p x)
