-- Where each state has its plain shares, the nation's cells have the persons of each kind, and groups pass on what comes to them, the flow
-- of the nation's fit is a circulation.
use Rattle.std.proofs.Common.{◌≡◌, ◌⊎◌, ℕ, zero, suc, ◌+◌, ◌-◌, ◌*◌, ◌<◌, ◌≤◌, cond, eqb, List, length, get_or, slice_index, refl, sym, ap, ◌∙◌, subst, inl, inr, arith}
use Rattle.std.proofs.lemmas.Bool.{cases_lt, eqb-true}
use Rattle.std.proofs.lemmas.List.{ext_get_or}
use Rattle.tda_model.specs.Cells.{is_possible, kind_of, possible_cells}
use Rattle.tda_model.specs.Groups.{kind_count}
use Rattle.tda_model.specs.Spine.{nation_of, units_at, IsTree}
use Rattle.tda_model.specs.Tables.{Table, Tables, persons_in}
use Rattle.tda_model.specs.Bounds.{persons_limit, low, high, MostHolds, HasKinds, TotalsSuffice}
use Rattle.tda_model.specs.Release.{Inputs, CanBe}
use Rattle.tda_model.proofs.Sums.{sum_by_index}
use Rattle.tda_schema.specs.Stated.{level_at}
use Rattle.tda_flow.specs.Network.{IsSound}
use Rattle.tda_flow.specs.Flow.{IsCirculation}
use Rattle.tda_groups.specs.Order.{group_at}
use Rattle.tda_groups.specs.Tree.{Tree, IsTreeOf}
use Rattle.tda_fitnet.specs.declared.name.ArcName.TheVariants.{Share, Give, Group}
use Rattle.tda_fitnet.specs.declared.layout.Layout.{Layout}
use Rattle.tda_fitnet.specs.Layout.{arc_number, kind_node, give_place, group_place, group_node}
use Rattle.tda_groups.specs.Chains.{has_cell, smallest_of, next_of}
use Rattle.tda_fitnet.specs.Terms.{terms_of}
use Rattle.tda_fitnet.specs.Arcs.{states, state_at, cell_at, root_layout, root_network}
use Rattle.tda_fitnet.specs.Fits.{group_sum, AreShares, root_flow}
use Rattle.tda_fitnet.specs.FitNetwork.{FitNetwork, net_at, root_fit}
use Rattle.tda_fitnet.specs.GroupFlows.{first_give, first_group, first_node, coming, IsGrouped}
use Rattle.tda_fitnet.specs.Giving.{kind_part}
use Rattle.tda_fitnet.specs.Plain.{plain_share}
use Rattle.tda_fitnet.proofs.Ranges.{below, below_same, place_below, length_all, at_source, at_share, at_give, at_group}
use Rattle.tda_fitnet.proofs.Places.{each_place, split_place}
use Rattle.tda_fitnet.proofs.Inner.{tick}
use Rattle.tda_fitnet.proofs.GivenOut.{part_same}
use Rattle.tda_fitnet.proofs.GroupSums.{balanced_is, members_sum}
use Rattle.tda_fitnet.proofs.GroupBounds.{Vanishes}
use Rattle.tda_fitnet.proofs.NationShares.{shares_attain}
use Rattle.tda_fitnet.proofs.SplitFit.{rank_in, cell_can, cell_in, cell_rank, is_cell, cell_few}
use Rattle.tda_fitnet.proofs.SplitGiven.{kind_cells_part}
use Rattle.tda_fitnet.proofs.UnitFacts.{listed_state}
use Rattle.tda_fitnet.proofs.RootFit.{from_low, from_high, small_in, down, same_states, root_as}
use Rattle.tda_fitnet.proofs.RootStart.{plain_enough, plain_not_more, plain_totals}
use Rattle.tda_fitnet.proofs.Grouped.{comes_to_group, grouped}

module _ (i : Inputs) (tree : IsTree i.spine (nation_of i.spine)) (has : HasKinds i.schema) (most : MostHolds i.known)
    (fews : (x : Table) → CanBe i (nation_of i.spine) x → persons_in i.schema x ≤ persons_limit)
    (t : Tree) (is : IsTreeOf i.schema (level_at i.schema 0) t) (suffice : TotalsSuffice i.schema i.spine i.known) where
  abbrev groups : List (List ℕ)
  groups = t.groups

  abbrev nation : ℕ
  nation = nation_of i.spine

  abbrev cells : List ℕ
  cells = possible_cells i.schema

  abbrev L : Layout
  L = root_layout i groups

  abbrev small : ℕ → ℕ
  small r = smallest_of groups (cell_at i r)

  abbrev from : ℕ → ℕ
  from r = kind_node L (kind_of i.schema (cell_at i r))

  abbrev plain : Tables
  plain st k = plain_share i.schema i.spine i.known st k

  root_grouped : (flow : List ℕ) → IsGrouped (root_network i t.groups) (first_give (root_layout i t.groups)) (first_group (root_layout i t.groups)) (first_node (root_layout i t.groups))
  root_grouped flow =
      grouped L (same_states i tree has most fews t is) from small (next_of groups) (from_low i tree has most fews t is) (from_high i tree has most fews t is) (small_in i tree has most fews t is) (down i tree has most fews t is)
      (λ n. i.known.total (state_at i n)) (λ n k. low i.spine i.known (state_at i n) k) (λ n k. high i.spine i.known (state_at i n) k) (λ u g. 0) (λ u g. persons_limit)
      (λ n k. Share (state_at i n) k) (λ u r. Give nation (cell_at i r)) (λ u g. Group nation g) (λ u g. terms_of i (level_at i.schema 0) nation (group_at groups g)) flow

  pub root_fit_grouped : (f : FitNetwork) → f ≡ root_fit i t.groups → (flow : List ℕ) → IsGrouped (net_at f) (first_give f.layout) (first_group f.layout) (first_node f.layout)
  root_fit_grouped f e flow = subst (λ f. IsGrouped (net_at f) (first_give f.layout) (first_group f.layout) (first_node f.layout)) (sym e) (root_grouped flow)

  -- what is given before groups pass it on
  pub record IsRootGiven (f : FitNetwork) (flow : List ℕ) : Type 0 where
    pub count : length flow ≡ arc_number f.layout
    pub totals : (n : ℕ) → n < length (units_at i.spine 1) → slice_index flow n ≡ i.known.total (slice_index (units_at i.spine 1) n)
    pub shares : (n k : ℕ) → n < length (units_at i.spine 1) → k < kind_count i.schema
        → slice_index flow (length (units_at i.spine 1) + (n * kind_count i.schema + k)) ≡ plain_share i.schema i.spine i.known (slice_index (units_at i.spine 1) n) k
    pub kinds : (k : ℕ) → k < kind_count i.schema
        → kind_part (λ r. kind_of i.schema (slice_index f.cells r)) k (λ r. slice_index flow (first_give f.layout + r)) (length f.cells)
        ≡ below (length (units_at i.spine 1)) (λ n. plain_share i.schema i.spine i.known (slice_index (units_at i.spine 1) n) k)

  pub record IsRootSummed (f : FitNetwork) (flow : List ℕ) : Type 0 where
    pub sums : (k : ℕ) → first_group f.layout ≤ k → k < arc_number f.layout → slice_index flow k ≡ coming (net_at f) flow (first_node f.layout + (k - first_group f.layout))

  abbrev fit : FitNetwork
  fit = root_fit i groups

  abbrev S : ℕ
  S = length (states i)

  abbrev K : ℕ
  K = kind_count i.schema

  abbrev C : ℕ
  C = length (possible_cells i.schema)

  module _ (flow : List ℕ) (g : IsRootGiven fit flow) where
    abbrev give : ℕ → ℕ
    give r = slice_index flow (S + S * K + r)

    abbrev table : Table
    table j = cond (is_possible i.schema j) (give (rank_in cells j)) 0

    vanishes : Vanishes i.schema table
    vanishes j l never = ap (λ v. cond v (give (rank_in cells j)) 0) never

    table_at : (r : ℕ) → r < C → table (cell_at i r) ≡ give r
    table_at r lr = ap (λ v. cond v (give (rank_in cells (cell_at i r))) 0) (cell_can i r lr) ∙ ap give (cell_rank i r lr)

    are : AreShares i table plain
    are = record {
      enough = plain_enough i tree has most suffice;
      not_more = plain_not_more i tree has most suffice;
      totals = plain_totals i tree has most suffice;
      kinds = λ k lk.
          sum_by_index (λ st. plain st k) (states i) 0
          ∙ sym (g.kinds k lk)
          ∙ below_same C (λ r. cond (eqb (kind_of i.schema (cell_at i r)) k) (give r) 0) (λ r. cond (eqb (kind_of i.schema (cell_at i r)) k) (table (cell_at i r)) 0)
          (λ r lr. ap (λ n. cond (eqb (kind_of i.schema (cell_at i r)) k) n 0) (sym (table_at r lr)))
          ∙ kind_cells_part i.schema table k vanishes;
    }

    can : CanBe i (nation_of i.spine) table
    can = shares_attain i tree most has.some table plain vanishes are

    give_few : (r : ℕ) → r < C → give r ≤ persons_limit
    give_few r lr = at_most _ _ _ (table_at r lr) (cell_few i table (cell_at i r) (cell_in i r lr)) (fews table can)
      where
        at_most : (a b c : ℕ) → b ≡ a → b ≤ c → c ≤ persons_limit → a ≤ persons_limit
        at_most a b c e h l = omega arith

    place : (r : ℕ) → S + S * K + r ≡ give_place L 0 r
    place r = omega arith

    pass_is : IsRootSummed fit flow → (h : ℕ) → h < L.groups → slice_index flow (group_place L 0 h) ≡ group_sum groups table h
    pass_is m h lh =
        balanced_is groups is.groups cells is.whole (λ r. slice_index flow (give_place L 0 r)) (λ h. slice_index flow (group_place L 0 h))
        (λ q lq.
        let one : 0 < 1 = omega arith in
        let b = place_below 1 (length t.groups) 0 q one lq in
        let node : first_node L + (group_place L 0 q - first_group L) ≡ group_node L 0 q = omega arith in
        sym (comes_to_group L (same_states i tree has most fews t is) from small (next_of groups) (from_low i tree has most fews t is) (from_high i tree has most fews t is) (small_in i tree has most fews t is) (down i tree has most fews t is)
        (λ n. i.known.total (state_at i n)) (λ n k. low i.spine i.known (state_at i n) k) (λ n k. high i.spine i.known (state_at i n) k) (λ u g. 0) (λ u g. persons_limit)
        (λ n k. Share (state_at i n) k) (λ u r. Give nation (cell_at i r)) (λ u g. Group nation g) (λ u g. terms_of i (level_at i.schema 0) nation (group_at groups g)) flow 0 q one lq)
        ∙ sym (m.sums (group_place L 0 q) (omega arith) (omega arith) ∙ ap (coming (root_network i groups) flow) node)) h lh
        ∙ below_same C _ (λ r. tick (table (cell_at i r)) (has_cell groups (cell_at i r) h)) (λ r lr. ap (λ n. tick n (has_cell groups (cell_at i r) h)) (ap (slice_index flow) (sym (place r)) ∙ sym (table_at r lr)))
        ∙ members_sum groups is.groups cells is.whole table h lh

    unit_is : (u : ℕ) → u < 1 → u ≡ 0
    unit_is u l = omega arith

    flow_is : IsRootSummed fit flow → flow ≡ root_flow i groups plain table
    flow_is m =
        let source_flow : ℕ → ℕ = λ n. i.known.total (state_at i n) in
        let share_flow : ℕ → ℕ → ℕ = λ n k. plain (state_at i n) k in
        let give_flow : ℕ → ℕ → ℕ = λ u r. table (cell_at i r) in
        let group_flow : ℕ → ℕ → ℕ = λ u h. group_sum groups table h in
        let size = length_all L source_flow share_flow give_flow group_flow in
        ext_get_or 0 flow (root_flow i groups plain table) (g.count ∙ sym size) (λ k lk. each_place L (λ k. get_or flow k 0 ≡ get_or (root_flow i groups plain table) k 0)
        (λ n ln. g.totals n ln ∙ sym (at_source L source_flow share_flow give_flow group_flow n 0 ln))
        (λ n k ln lk. g.shares n k ln lk ∙ sym (at_share L source_flow share_flow give_flow group_flow n k 0 ln lk))
        (λ u r lu lr. ap (λ v. slice_index flow (give_place L v r)) (unit_is u lu) ∙ ap (slice_index flow) (sym (place r)) ∙ sym (table_at r lr) ∙ sym (at_give L source_flow share_flow give_flow group_flow u r 0 lu lr))
        (λ u h lu lh. ap (λ v. slice_index flow (group_place L v h)) (unit_is u lu) ∙ pass_is m h lh ∙ sym (at_group L source_flow share_flow give_flow group_flow u h 0 lu lh))
        k (omega (arith, g.count)))

    fit_circulates : 0 < length i.schema.levels → IsSound (root_network i t.groups) → IsRootSummed fit flow → IsCirculation (root_network i t.groups) flow
    fit_circulates deep sound m =
        subst (IsCirculation (root_network i groups)) (sym (flow_is m)) ((root_as i tree has most fews t is deep sound).of_table table plain can are)

    fit_limit : (k : ℕ) → k < first_group (root_layout i t.groups) → slice_index flow k ≤ persons_limit
    fit_limit k l = elim (cases_lt k S) [
      | inl source ↦
          let st = listed_state i.spine (states i) refl k source in
          let few = suffice.not_many (state_at i k) st.here (eqb-true _ _ st.at) in
          at_most _ _ (g.totals k source) few
      | inr later ↦ elim (cases_lt k (S + S * K)) [
        | inl share ↦
            let q = split_place S K (k - S) (omega arith) in
            let at : S + (q.0 * K + q.1) ≡ k = omega (arith, q.4) in
            subst (λ n. slice_index flow n ≤ persons_limit) at (within _ _ _ (g.shares q.0 q.1 q.2 q.3) (plain_not_more i tree has most suffice q.0 q.1 q.2 q.3) (high_few (state_at i q.0) q.1))
        | inr past ↦
            let at : S + S * K + (k - (S + S * K)) ≡ k = omega arith in
            subst (λ n. slice_index flow n ≤ persons_limit) at (give_few (k - (S + S * K)) (omega arith))
      ]
    ]
      where
        at_most : (a b : ℕ) {limit : ℕ} → a ≡ b → b ≤ limit → a ≤ limit
        at_most a b e h = omega arith

        within : (a b c : ℕ) → a ≡ b → b ≤ c → c ≤ persons_limit → a ≤ persons_limit
        within a b c e h m = omega arith

        high_few : (u k : ℕ) → high i.spine i.known u k ≤ persons_limit
        high_few u zero = omega arith
        high_few u (suc k) = omega arith

  pub root_limit : (f : FitNetwork) → f ≡ root_fit i t.groups → (flow : List ℕ) → IsRootGiven f flow → (k : ℕ) → k < first_group f.layout → slice_index flow k ≤ persons_limit
  root_limit f e flow g = subst (λ f. IsRootGiven f flow → (k : ℕ) → k < first_group f.layout → slice_index flow k ≤ persons_limit) (sym e) (λ g. fit_limit flow g) g

  pub root_circulates : 0 < length i.schema.levels → (f : FitNetwork) → f ≡ root_fit i t.groups → IsSound (net_at f) → (flow : List ℕ) → IsRootGiven f flow → IsRootSummed f flow → IsCirculation (net_at f) flow
  root_circulates deep f e sound flow g m =
      subst (λ f. IsSound (net_at f) → IsRootGiven f flow → IsRootSummed f flow → IsCirculation (net_at f) flow) (sym e) (λ sound g m. fit_circulates flow g deep sound m) sound g m

  -- the parts of the list of flows
  root_arcs_are : (f : FitNetwork) → f ≡ root_fit i t.groups → arc_number f.layout ≡ S + (S * K + (1 * C + 1 * length t.groups))
  root_arcs_are f e = ap (λ f. arc_number f.layout) e

  pub states_room : (f : FitNetwork) → f ≡ root_fit i t.groups → length (units_at i.spine 1) + length (units_at i.spine 1) * kind_count i.schema ≤ arc_number f.layout
  states_room f e = omega (arith, root_arcs_are f e)

  -- each kind has a cell
  pub each_kind : (cs : List ℕ) → cs ≡ possible_cells i.schema → (k : ℕ) → k < kind_count i.schema
      → (r : ℕ) × (r < length cs) × (kind_of i.schema (slice_index cs r) ≡ k)
  each_kind cs e k l = subst (λ cs. (r : ℕ) × (r < length cs) × (kind_of i.schema (slice_index cs r) ≡ k)) (sym e)
      (let c = has.cell k l in let cell = is_cell i c.0 c.1 c.2 in (cell.rank, cell.low, ap (kind_of i.schema) cell.is ∙ c.3))

  -- what the code wrote
  pub root_given : (f : FitNetwork) → f ≡ root_fit i t.groups → (first : ℕ) → first ≡ first_give f.layout → (cs : List ℕ) → cs ≡ f.cells → (states_flow sums flow : List ℕ)
      → length states_flow ≡ arc_number f.layout → length flow ≡ length states_flow
      → ((n : ℕ) → n < length (units_at i.spine 1) → slice_index states_flow n ≡ i.known.total (slice_index (units_at i.spine 1) n))
      → ((n k : ℕ) → n < length (units_at i.spine 1) → k < kind_count i.schema
      → slice_index states_flow (length (units_at i.spine 1) + (n * kind_count i.schema + k)) ≡ plain_share i.schema i.spine i.known (slice_index (units_at i.spine 1) n) k)
      → ((k : ℕ) → k < kind_count i.schema → slice_index sums k ≡ below (length (units_at i.spine 1)) (λ n. plain_share i.schema i.spine i.known (slice_index (units_at i.spine 1) n) k))
      → ((k : ℕ) → k < kind_count i.schema → kind_part (λ r. kind_of i.schema (slice_index cs r)) k (λ r. slice_index flow (first + r)) (length cs) ≡ slice_index sums k)
      → ((j : ℕ) → (j < first) ⊎ (first + length cs ≤ j) → slice_index flow j ≡ slice_index states_flow j)
      → IsRootGiven f flow
  root_given f e first at cs same states_flow sums flow count count2 totals shares are kinds others =
      let begin : first ≡ S + S * K = at ∙ ap (λ f. first_give f.layout) e in record {
        count = count2 ∙ count;
        totals = λ n l. others n (inl (omega arith)) ∙ totals n l;
        shares = λ n k l lk. let b = place_below S K n k l lk in others (S + (n * K + k)) (inl (omega arith)) ∙ shares n k l lk;
        kinds = λ k l.
            ap (λ m. kind_part (λ r. kind_of i.schema (slice_index f.cells r)) k (λ r. slice_index flow (m + r)) (length f.cells)) (sym at)
            ∙ ap (λ cs. kind_part (λ r. kind_of i.schema (slice_index cs r)) k (λ r. slice_index flow (first + r)) (length cs)) (sym same)
            ∙ kinds k l ∙ are k l;
      }

  -- nothing stands yet behind what cells are given
  pub root_empty : (f : FitNetwork) → f ≡ root_fit i t.groups → (first : ℕ) → first ≡ first_give f.layout → (cs : List ℕ) → cs ≡ f.cells → (k : ℕ) → first_group f.layout ≤ k
      → (first + length cs ≤ k) × (length (units_at i.spine 1) + length (units_at i.spine 1) * kind_count i.schema ≤ k)
  root_empty f e first at cs same k l =
      let begin : first ≡ S + S * K = at ∙ ap (λ f. first_give f.layout) e in
      let end : first_group f.layout ≡ S + S * K + 1 * C = ap (λ f. first_group f.layout) e in
      let size : length cs ≡ C = ap length same ∙ ap (λ f. length f.cells) e in
      (omega arith, omega arith)

  -- and what stays when groups pass on
  pub root_kept : (f : FitNetwork) → f ≡ root_fit i t.groups → (old flow : List ℕ) → IsRootGiven f old → length flow ≡ length old
      → ((k : ℕ) → k < first_group f.layout → slice_index flow k ≡ slice_index old k) → IsRootGiven f flow
  root_kept f e old flow g count kept =
      subst (λ f. IsRootGiven f old → ((k : ℕ) → k < first_group f.layout → slice_index flow k ≡ slice_index old k) → IsRootGiven f flow) (sym e) at_fit g kept
    where
      at_fit : IsRootGiven fit old → ((k : ℕ) → k < first_group L → slice_index flow k ≡ slice_index old k) → IsRootGiven fit flow
      at_fit g kept = record {
        count = count ∙ g.count;
        totals = λ n l. kept n (omega arith) ∙ g.totals n l;
        shares = λ n k l lk. let b = place_below S K n k l lk in kept (S + (n * K + k)) (omega arith) ∙ g.shares n k l lk;
        kinds = λ k l. part_same (λ r. kind_of i.schema (cell_at i r)) k (λ r. slice_index flow (S + S * K + r)) (λ r. slice_index old (S + S * K + r)) C
            (λ r lr. kept (S + S * K + r) (omega arith)) ∙ g.kinds k l;
      }
