-- Where a unit's children are given their quotas of its table, and groups pass on what comes to them, the flow is a circulation.
use Rattle.std.proofs.Common.{◌≡◌, ℕ, ◌+◌, ◌<◌, ◌≤◌, cond, eqb, List, length, get_or, slice_index, sym, ap, ◌∙◌, subst, inl, inr, arith}
use Rattle.std.specs.List.{sum_by}
use Rattle.std.proofs.lemmas.Bool.{cases_Bool}
use Rattle.std.proofs.lemmas.List.{ext_get_or}
use Rattle.std.proofs.lemmas.List.Elements.{All-from_get_or}
use Rattle.tda_model.specs.Schema.{Schema}
use Rattle.tda_model.specs.Cells.{cell_count, is_possible, kind_of, possible_cells}
use Rattle.tda_model.specs.Groups.{kind_count}
use Rattle.tda_model.specs.Spine.{level_of, nation_of, children_of, is_child, IsUnit, IsTree}
use Rattle.tda_model.specs.Tables.{Table, Tables, kind_sum, persons_in, Attainable}
use Rattle.tda_model.specs.Least.{IsFamily}
use Rattle.tda_model.specs.Bounds.{persons_limit, low, high, InBounds, MostHolds, HasKinds}
use Rattle.tda_model.specs.Release.{Inputs, CanBe}
use Rattle.tda_model.proofs.Sums.{range_ascends, filter_ascends, sum_same, sum_zero, sum_filter, sum_by_index, each_any}
use Rattle.tda_model.proofs.Attain.{persons_by_kind, in_bounds_attains}
use Rattle.tda_schema.specs.Stated.{level_at}
use Rattle.tda_flow.specs.Network.{IsSound}
use Rattle.tda_flow.specs.Flow.{IsCirculation}
use Rattle.tda_groups.specs.Order.{group_at}
use Rattle.tda_groups.specs.Tree.{Tree, IsTreeOf}
use Rattle.tda_fitnet.specs.declared.name.ArcName.TheVariants.{Share, Give, Group}
use Rattle.tda_fitnet.specs.declared.layout.Layout.{Layout}
use Rattle.tda_fitnet.specs.Layout.{arc_number, source_node, give_place, group_place, group_node}
use Rattle.tda_groups.specs.Chains.{has_cell, smallest_of, next_of}
use Rattle.tda_fitnet.specs.Terms.{terms_of, group_low, group_high}
use Rattle.tda_fitnet.specs.Arcs.{cell_at, child_at, split_layout, split_network}
use Rattle.tda_fitnet.specs.Fits.{group_sum, split_flow}
use Rattle.tda_fitnet.specs.GroupFlows.{first_give, first_group, first_node, coming, IsGrouped}
use Rattle.tda_fitnet.specs.Giving.{kind_part, AreQuotas}
use Rattle.tda_fitnet.proofs.Ranges.{below, below_same, length_all, at_source, at_give, at_group}
use Rattle.tda_fitnet.proofs.Places.{each_place}
use Rattle.tda_fitnet.proofs.Inner.{tick}
use Rattle.tda_fitnet.proofs.GroupSums.{balanced_is, members_sum}
use Rattle.tda_fitnet.proofs.GroupBounds.{Vanishes, kind_cells_sum}
use Rattle.tda_fitnet.proofs.Grouped.{comes_to_group, grouped}
use Rattle.tda_fitnet.proofs.SplitFit.{rank_in, rank_at, cell_can, cell_rank, is_cell, from_low, from_high, small_in, down, no_states, children_are, split_of_family}

-- the persons of a kind are those of its possible cells
pub kind_cells_part : (s : Schema) (y : Table) (k : ℕ) → Vanishes s y
    → kind_part (λ r. kind_of s (slice_index (possible_cells s) r)) k (λ r. y (slice_index (possible_cells s) r)) (length (possible_cells s)) ≡ kind_sum s k y
kind_cells_part s y k none =
    sym (sum_by_index (λ j. cond (eqb (kind_of s j) k) (y j) 0) (possible_cells s) 0)
    ∙ sym (sum_filter y (λ j. eqb (kind_of s j) k) (possible_cells s))
    ∙ kind_cells_sum s k y none

module _ (i : Inputs) (tree : IsTree i.spine (nation_of i.spine)) (has : HasKinds i.schema) (most : MostHolds i.known)
    (p : ℕ) (here : IsUnit i.spine p) (t : Tree) (is : IsTreeOf i.schema (level_at i.schema (level_of i.spine p + 1)) t)
    (x : Table) (none : Vanishes i.schema x) (few : persons_in i.schema x ≤ persons_limit) where
  abbrev groups : List (List ℕ)
  groups = t.groups

  abbrev children : List ℕ
  children = children_of i.spine p

  abbrev cells : List ℕ
  cells = possible_cells i.schema

  abbrev L : Layout
  L = split_layout i groups p

  abbrev child : ℕ → ℕ
  child u = child_at i p u

  abbrev kind_at : ℕ → ℕ
  kind_at r = kind_of i.schema (cell_at i r)

  pub split_grouped : (flow : List ℕ) → IsGrouped (split_network i t.groups p x) (first_give (split_layout i t.groups p)) (first_group (split_layout i t.groups p)) (first_node (split_layout i t.groups p))
  split_grouped flow =
      grouped L (no_states i tree has most p here t is x none few) source_node (λ r. smallest_of groups (cell_at i r)) (next_of groups)
      (from_low i tree has most p here t is x none few) (from_high i tree has most p here t is x none few) (small_in i tree has most p here t is x none few) (down i tree has most p here t is x none few)
      (λ r. x (cell_at i r)) (λ n k. low i.spine i.known n k) (λ n k. high i.spine i.known n k)
      (λ u g. group_low i (child u) g (group_at groups g)) (λ u g. group_high i (child u) g (group_at groups g))
      (λ n k. Share n k) (λ u r. Give (child u) (cell_at i r)) (λ u g. Group (child u) g)
      (λ u g. terms_of i (level_at i.schema (level_of i.spine p + 1)) (child u) (group_at groups g)) flow

  -- each child has its quotas of the table, and each group what comes to it
  pub record IsSplitGiven (quota : ℕ → ℕ → ℕ) (flow : List ℕ) : Type 0 where
    pub count : length flow ≡ arc_number (split_layout i t.groups p)
    pub sources : (r : ℕ) → r < length (possible_cells i.schema) → slice_index flow r ≡ x (cell_at i r)
    pub sums : (r : ℕ) → r < length (possible_cells i.schema)
        → below (length (children_of i.spine p)) (λ u. slice_index flow (give_place (split_layout i t.groups p) u r)) ≡ x (cell_at i r)
    pub own : (u k : ℕ) → u < length (children_of i.spine p) → k < kind_count i.schema
        → kind_part (λ r. kind_of i.schema (cell_at i r)) k (λ r. slice_index flow (give_place (split_layout i t.groups p) u r)) (length (possible_cells i.schema)) ≡ quota u k
    pub groups : (u g : ℕ) → u < length (children_of i.spine p) → g < length t.groups
        → slice_index flow (group_place (split_layout i t.groups p) u g) ≡ coming (split_network i t.groups p x) flow (group_node (split_layout i t.groups p) u g)

  module _ (quota : ℕ → ℕ → ℕ) (flow : List ℕ) (are : AreQuotas i.schema i.spine i.known p quota) (g : IsSplitGiven quota flow) where
    abbrev give : ℕ → ℕ → ℕ
    give u r = slice_index flow (give_place L u r)

    abbrev pass : ℕ → ℕ → ℕ
    pass u h = slice_index flow (group_place L u h)

    abbrev family : Tables
    family c j = cond (is_possible i.schema j) (give (rank_in children c) (rank_in cells j)) 0

    vanishes : (c : ℕ) → Vanishes i.schema (family c)
    vanishes c j l never = ap (λ v. cond v (give (rank_in children c) (rank_in cells j)) 0) never

    child_rank : (u : ℕ) → u < length children → rank_in children (child u) ≡ u
    child_rank u l = rank_at children (filter_ascends (is_child i.spine p) _ (range_ascends 0 (length i.spine.units))) u l

    family_at : (u r : ℕ) → u < length children → r < L.cells → family (child u) (cell_at i r) ≡ give u r
    family_at u r lu lr =
        ap (λ v. cond v (give (rank_in children (child u)) (rank_in cells (cell_at i r))) 0) (cell_can i r lr)
        ∙ ap (λ v. give v (rank_in cells (cell_at i r))) (child_rank u lu) ∙ ap (give u) (cell_rank i r lr)

    pass_is : (u h : ℕ) → u < length children → h < L.groups → pass u h ≡ group_sum groups (family (child u)) h
    pass_is u h lu lh =
        balanced_is groups is.groups cells is.whole (give u) (pass u)
        (λ m lm. sym (comes_to_group L (no_states i tree has most p here t is x none few) source_node (λ r. smallest_of groups (cell_at i r)) (next_of groups)
        (from_low i tree has most p here t is x none few) (from_high i tree has most p here t is x none few) (small_in i tree has most p here t is x none few) (down i tree has most p here t is x none few)
        (λ r. x (cell_at i r)) (λ n k. low i.spine i.known n k) (λ n k. high i.spine i.known n k)
        (λ u g. group_low i (child u) g (group_at groups g)) (λ u g. group_high i (child u) g (group_at groups g))
        (λ n k. Share n k) (λ u r. Give (child u) (cell_at i r)) (λ u g. Group (child u) g)
        (λ u g. terms_of i (level_at i.schema (level_of i.spine p + 1)) (child u) (group_at groups g)) flow u m lu lm) ∙ sym (g.groups u m lu lm)) h lh
        ∙ below_same L.cells _ (λ r. tick (family (child u) (cell_at i r)) (has_cell groups (cell_at i r) h)) (λ r lr. ap (λ n. tick n (has_cell groups (cell_at i r) h)) (sym (family_at u r lu lr)))
        ∙ members_sum groups is.groups cells is.whole (family (child u)) h lh

    kinds_are : (u k : ℕ) → u < length children → k < kind_count i.schema → kind_sum i.schema k (family (child u)) ≡ quota u k
    kinds_are u k lu lk =
        sym (kind_cells_part i.schema (family (child u)) k (vanishes (child u)))
        ∙ below_same L.cells (λ r. cond (eqb (kind_at r) k) (family (child u) (cell_at i r)) 0) (λ r. cond (eqb (kind_at r) k) (give u r) 0)
        (λ r lr. ap (λ n. cond (eqb (kind_at r) k) n 0) (family_at u r lu lr))
        ∙ g.own u k lu lk

    in_bounds : (u : ℕ) → u < length children → InBounds i.schema i.spine i.known (child u) (family (child u))
    in_bounds u lu = record {
      impossible = vanishes (child u);
      enough = λ k lk. subst (λ n. low i.spine i.known (child u) k ≤ n) (sym (kinds_are u k lu lk)) (are.enough u k lu lk);
      not_more = λ k lk. subst (λ n. n ≤ high i.spine i.known (child u) k) (sym (kinds_are u k lu lk)) (are.not_more u k lu lk);
      total = λ d. persons_by_kind i.schema (family (child u)) has.some ∙ below_same (kind_count i.schema) _ (quota u) (λ k lk. kinds_are u k lu lk) ∙ are.totals u lu d;
    }

    adds_at : (j : ℕ) → j < cell_count i.schema → x j ≡ sum_by (λ c. family c j) children
    adds_at j l = elim (cases_Bool (is_possible i.schema j)) [
      | inl can ↦
          let c = is_cell i j l can in
          let r = c.rank in
          ap x (sym c.is) ∙ sym (g.sums r c.low)
          ∙ below_same (length children) (λ u. give u r) (λ u. family (child u) (cell_at i r)) (λ u lu. sym (family_at u r lu c.low))
          ∙ sym (sum_by_index (λ d. family d (cell_at i r)) children 0)
          ∙ ap (λ k. sum_by (λ d. family d k) children) c.is
      | inr never ↦ none j l never ∙ sym (sum_zero children) ∙ sum_same (λ d. 0) (λ d. family d j) children (each_any _ children (λ d. sym (vanishes d j l never)))
    ]

    family_is : IsFamily (CanBe i) i.schema children x family
    family_is = record {
      can_be = All-from_get_or (λ c. Attainable i.schema i.spine i.known c (family c)) children 0
          (λ u lu. let is_child_here = children_are i tree has most p here t is x none few u 0 lu in
          let above : level_of i.spine (child u) ≡ level_of i.spine p + 1 = is_child_here.1.above in
          in_bounds_attains i.spine (nation_of i.spine) tree i.schema i.known (child u) is_child_here.0 (omega arith) most (family (child u)) (in_bounds u lu));
      adds = adds_at;
    }

    flow_is : flow ≡ split_flow i groups p x family
    flow_is =
        let source_flow : ℕ → ℕ = λ r. x (cell_at i r) in
        let share_flow : ℕ → ℕ → ℕ = λ n k. 0 in
        let give_flow : ℕ → ℕ → ℕ = λ u r. family (child u) (cell_at i r) in
        let group_flow : ℕ → ℕ → ℕ = λ u h. group_sum groups (family (child u)) h in
        let size = length_all L source_flow share_flow give_flow group_flow in
        ext_get_or 0 flow (split_flow i groups p x family) (g.count ∙ sym size) (λ k low_k. each_place L (λ k. get_or flow k 0 ≡ get_or (split_flow i groups p x family) k 0)
        (λ n ln. g.sources n ln ∙ sym (at_source L source_flow share_flow give_flow group_flow n 0 ln))
        (λ n k ln lk. absurd (omega arith))
        (λ u r lu lr. sym (family_at u r lu lr) ∙ sym (at_give L source_flow share_flow give_flow group_flow u r 0 lu lr))
        (λ u h lu lh. pass_is u h lu lh ∙ sym (at_group L source_flow share_flow give_flow group_flow u h 0 lu lh))
        k (omega (arith, g.count)))

    pub given_circulates : IsSound (split_network i t.groups p x) → IsCirculation (split_network i t.groups p x) flow
    given_circulates sound =
        subst (IsCirculation (split_network i groups p x)) (sym flow_is) (split_of_family i tree has most p here t is x none few sound family family_is)
