-- How what belongs to the arcs of a fit is laid out in one list: for each source, by state and kind, by unit and cell, by unit and group.
use Rattle.std.specs.Prelude.{ℕ, ◌+◌, ◌*◌, List, ◌++◌, map}
use Rattle.std.specs.List.{range_with_len, flat_map}
use Rattle.tda_fitnet.specs.declared.layout.Layout.{Layout}

abbrev pub row : {A : Type 0} → ℕ → (ℕ → A) → List A
row n f = map f (range_with_len 0 n)

abbrev pub rows : {A : Type 0} → ℕ → ℕ → (ℕ → ℕ → A) → List A
rows m n f = flat_map (λ i. row n (f i)) (range_with_len 0 m)

abbrev pub layout_list : {A : Type 0} → Layout → (ℕ → A) → (ℕ → ℕ → A) → (ℕ → ℕ → A) → (ℕ → ℕ → A) → List A
layout_list l source share give group =
    row l.sources source ++ (rows l.states l.kinds share ++ (rows l.units l.cells give ++ rows l.units l.groups group))

abbrev pub arc_number : Layout → ℕ
arc_number l = l.sources + (l.states * l.kinds + (l.units * l.cells + l.units * l.groups))

-- The nodes: the hub, a node for each source, for each kind, and for each unit and group.
abbrev pub node_number : Layout → ℕ
node_number l = 1 + l.sources + l.kinds + l.units * l.groups

abbrev pub hub : ℕ
hub = 0

abbrev pub source_node : ℕ → ℕ
source_node n = 1 + n

abbrev pub kind_node : Layout → ℕ → ℕ
kind_node l k = 1 + l.sources + k

abbrev pub group_node : Layout → ℕ → ℕ → ℕ
group_node l u g = 1 + l.sources + l.kinds + (u * l.groups + g)

-- Where what belongs to a state and kind, to a unit and cell, and to a unit and group stands in the list.
abbrev pub share_place : Layout → ℕ → ℕ → ℕ
share_place l n k = l.sources + (n * l.kinds + k)

abbrev pub give_place : Layout → ℕ → ℕ → ℕ
give_place l u r = l.sources + (l.states * l.kinds + (u * l.cells + r))

abbrev pub group_place : Layout → ℕ → ℕ → ℕ
group_place l u g = l.sources + (l.states * l.kinds + (l.units * l.cells + (u * l.groups + g)))
