-- The prices of a fit at the nodes of its network.
use Rattle.std.proofs.Common.{◌≡◌, ℕ, zero, suc, ◌+◌, ◌-◌, ◌*◌, ◌<◌, List, [], ◌∷◌, ◌++◌, length, get_or, map, ℤ, pos, Option, Some, None, refl, sym, ap, ◌∙◌, arith, length-append}
use Rattle.std.specs.List.{flat_map, range_with_len}
use Rattle.std.proofs.lemmas.List.{get_or_append_left, get_or-append_right, get_or-map, length-map}
use Rattle.std.proofs.lemmas.List.FromFn.{length-map-range_with_len, get_or-map-range_with_len}
use Rattle.std.proofs.lemmas.Option.{slice_get-get_or}
use Rattle.tda_model.specs.Schema.{Schema, Level}
use Rattle.tda_model.specs.Cells.{possible_cells}
use Rattle.tda_model.specs.Groups.{kind_count, group_count}
use Rattle.tda_model.specs.Sizes.{groups_at}
use Rattle.tda_model.specs.Spine.{Spine, level_of, nation_of, units_at, children_of}
use Rattle.tda_model.specs.Release.{Inputs}
use Rattle.tda_model.proofs.Sums.{Each}
use Rattle.tda_schema.specs.Stated.{level_at}
use Rattle.tda_groups.specs.Tree.{Tree, IsTreeOf}
use Rattle.tda_flow.specs.Certificate.{price_at}
use Rattle.tda_fitnet.specs.declared.layout.Layout.{Layout}
use Rattle.tda_fitnet.specs.Layout.{source_node, kind_node, group_node}
use Rattle.tda_fitnet.specs.Arcs.{state_at, cell_at, child_at, root_layout, split_layout}
use Rattle.tda_fitnet.proofs.Ranges.{place_below}
use Rattle.tda_prices.specs.Items.{Item, OfState, OfKind, OfCell, OfGroup, unit_items, items_of, Pricing, prices_of}
use Rattle.tda_prices.proofs.Listed.{flat_at, flat_length}

-- the groups of some tree of each level
abbrev pub AreGroupsOf : Schema → (ℕ → List (List ℕ)) → Type 0
AreGroupsOf s groups = (l : ℕ) → l < length s.levels → (t : Tree) × IsTreeOf s (level_at s l) t × (t.groups ≡ groups l)

-- a level has as many groups as its tree
pub groups_are : (s : Schema) (l : ℕ) → l < length s.levels → (t : Tree) → IsTreeOf s (level_at s l) t → groups_at s l ≡ length t.groups
groups_are s l low t is =
    let pick : Option Level → ℕ = λ o. elim o as (λ _. ℕ) [ Some v ↦ group_count s v | None ↦ 0 ] in
    ap pick (slice_get-get_or s.levels l (record { name = []; queries = [] }) low) ∙ sym is.count

-- the price of the item of number k, behind that of the hub
abbrev no_item : Item
no_item = OfKind 0

pub behind_hub : (price : Item → ℤ) (items : List Item) (v k : ℕ) (it : Item) → v ≡ suc k → k < length items → get_or items k no_item ≡ it → price_at (pos 0 ∷ map price items) v ≡ price it
behind_hub price items v k it e low is =
    ap (price_at (pos 0 ∷ map price items)) e ∙ get_or-map price items k no_item (pos 0) low ∙ ap price is

pub at_hub : (price : Item → ℤ) (items : List Item) → price_at (pos 0 ∷ map price items) 0 ≡ pos 0
at_hub price items = refl

module _ (i : Inputs) (price : Pricing) where
  abbrev s : Schema
  s = i.schema

  abbrev sp : Spine
  sp = i.spine

  -- ---- the root fit
  module _ (t : Tree) (count : groups_at i.schema (level_of i.spine (nation_of i.spine)) ≡ length t.groups) where
    abbrev nation : ℕ
    nation = nation_of sp

    abbrev states : List ℕ
    states = units_at sp 1

    abbrev kinds : List Item
    kinds = map OfKind (range_with_len 0 (kind_count s))

    abbrev items : List Item
    items = items_of s sp None

    abbrev L : Layout
    L = root_layout i t.groups

    abbrev prices : List ℤ
    prices = pos 0 ∷ prices_of s sp price None

    states_long : length (map OfState states) ≡ length states
    states_long = length-map states OfState

    kinds_long : length kinds ≡ kind_count s
    kinds_long = length-map-range_with_len OfKind 0 (kind_count s)

    groups_long : length (unit_items s sp nation) ≡ length t.groups
    groups_long = length-map-range_with_len (OfGroup nation) 0 _ ∙ count

    long : length items ≡ length states + (kind_count s + length t.groups)
    long = length-append (map OfState states) (kinds ++ unit_items s sp nation) ∙ omega (arith, states_long, kinds_long, groups_long, length-append kinds (unit_items s sp nation))

    pub root_long : length prices ≡ 1 + (length (units_at i.spine 1) + (kind_count i.schema + length t.groups))
    root_long = ap suc (length-map items (price None) ∙ long) ∙ omega arith

    pub root_source : (n : ℕ) → n < L.sources → price_at (pos 0 ∷ prices_of i.schema i.spine price None) (source_node n) ≡ price None (OfState (state_at i n))
    root_source n ln =
        behind_hub (price None) items (source_node n) n (OfState (state_at i n)) (omega arith) (omega (arith, long))
        (get_or_append_left (map OfState states) (kinds ++ unit_items s sp nation) no_item n (omega (arith, states_long)) ∙ get_or-map OfState states n 0 no_item ln)

    pub root_kind : (k : ℕ) → k < L.kinds → price_at (pos 0 ∷ prices_of i.schema i.spine price None) (kind_node L k) ≡ price None (OfKind k)
    root_kind k lk =
        let e : length states + k - length states ≡ k = omega arith in
        behind_hub (price None) items (kind_node L k) (length states + k) (OfKind k) (omega arith) (omega (arith, long))
        (get_or-append_right (map OfState states) (kinds ++ unit_items s sp nation) (length states) (length states + k) no_item states_long (omega arith)
        ∙ ap (λ m. get_or (kinds ++ unit_items s sp nation) m no_item) e
        ∙ get_or_append_left kinds (unit_items s sp nation) no_item k (omega (arith, kinds_long))
        ∙ get_or-map-range_with_len OfKind 0 (kind_count s) k k no_item lk (omega arith))

    pub root_group : (g : ℕ) → g < L.groups → price_at (pos 0 ∷ prices_of i.schema i.spine price None) (group_node L 0 g) ≡ price None (OfGroup (nation_of i.spine) g)
    root_group g lg =
        let k : ℕ = length states + (kind_count s + g) in
        let e : k - length states ≡ kind_count s + g = omega arith in
        let f : kind_count s + g - kind_count s ≡ g = omega arith in
        behind_hub (price None) items (group_node L 0 g) k (OfGroup nation g) (omega arith) (omega (arith, long))
        (get_or-append_right (map OfState states) (kinds ++ unit_items s sp nation) (length states) k no_item states_long (omega arith)
        ∙ ap (λ m. get_or (kinds ++ unit_items s sp nation) m no_item) e
        ∙ get_or-append_right kinds (unit_items s sp nation) (kind_count s) (kind_count s + g) no_item kinds_long (omega arith)
        ∙ ap (λ m. get_or (unit_items s sp nation) m no_item) f
        ∙ get_or-map-range_with_len (OfGroup nation) 0 (groups_at s (level_of sp nation)) g g no_item (omega (arith, count)) (omega arith))

  -- ---- a split
  module _ (p : ℕ) (t : Tree) (counts : Each (λ v. groups_at i.schema (level_of i.spine v) ≡ length t.groups) (children_of i.spine p)) where
    abbrev cells : List Item
    cells = map OfCell (possible_cells s)

    abbrev split_items : List Item
    split_items = items_of s sp (Some p)

    abbrev SL : Layout
    SL = split_layout i t.groups p

    each_long : (vs : List ℕ) → Each (λ v. groups_at s (level_of sp v) ≡ length t.groups) vs → Each (λ v. length (unit_items s sp v) ≡ length t.groups) vs
    each_long [] h = tt
    each_long (v ∷ vs) h = (length-map-range_with_len (OfGroup v) 0 _ ∙ h.0, each_long vs h.1)

    each_get : (P : ℕ → Type 0) (vs : List ℕ) → Each P vs → (u : ℕ) → u < length vs → P (get_or vs u 0)
    each_get P [] h u l = absurd (omega arith)
    each_get P (v ∷ vs) h zero l = h.0
    each_get P (v ∷ vs) h (suc u) l = each_get P vs h.1 u (omega arith)

    cells_long : length cells ≡ length (possible_cells s)
    cells_long = length-map (possible_cells s) OfCell

    pub split_long : length split_items ≡ length (possible_cells s) + length (children_of sp p) * length t.groups
    split_long = length-append cells (flat_map (unit_items s sp) (children_of sp p)) ∙ omega (arith, cells_long, flat_length (unit_items s sp) (length t.groups) (children_of sp p) (each_long (children_of sp p) counts))

    pub split_source : (r : ℕ) → r < SL.cells → price_at (pos 0 ∷ prices_of i.schema i.spine price (Some p)) (source_node r) ≡ price (Some p) (OfCell (cell_at i r))
    split_source r lr =
        behind_hub (price (Some p)) split_items (source_node r) r (OfCell (cell_at i r)) (omega arith) (omega (arith, split_long))
        (get_or_append_left cells (flat_map (unit_items s sp) (children_of sp p)) no_item r (omega (arith, cells_long)) ∙ get_or-map OfCell (possible_cells s) r 0 no_item lr)

    pub split_group : (u g : ℕ) → u < SL.units → g < SL.groups → price_at (pos 0 ∷ prices_of i.schema i.spine price (Some p)) (group_node SL u g) ≡ price (Some p) (OfGroup (child_at i p u) g)
    split_group u g lu lg =
        let J : ℕ = length (possible_cells s) in
        let G : ℕ = length t.groups in
        let k : ℕ = J + (u * G + g) in
        let e : k - J ≡ u * G + g = omega arith in
        let b = place_below (length (children_of sp p)) G u g lu lg in
        behind_hub (price (Some p)) split_items (group_node SL u g) k (OfGroup (child_at i p u) g) (omega arith) (omega (arith, split_long, b))
        (get_or-append_right cells (flat_map (unit_items s sp) (children_of sp p)) J k no_item cells_long (omega arith)
        ∙ ap (λ m. get_or (flat_map (unit_items s sp) (children_of sp p)) m no_item) e
        ∙ flat_at (unit_items s sp) G (children_of sp p) (each_long (children_of sp p) counts) u g no_item lu lg
        ∙ get_or-map-range_with_len (OfGroup (child_at i p u)) 0 (groups_at s (level_of sp (child_at i p u))) g g no_item
        (omega (arith, each_get (λ v. groups_at s (level_of sp v) ≡ G) (children_of sp p) counts u lu)) (omega arith))
