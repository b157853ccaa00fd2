-- The circulations of the root fit are exactly the tables that the nation can have, each with shares; a least one stands for a least table.
use Rattle.std.proofs.Common.{◌≡◌, ℕ, ◌+◌, ◌<◌, ◌≤◌, ◌&&◌, ◌==◌, cond, eqb, nat_lt, List, length, get_or, slice_index, ℤ, pos, refl, sym, ap, ◌∙◌, subst, inl, inr, arith, ne_eqb, eq-eqb}
use Rattle.std.proofs.lemmas.Bool.{cases_eq}
use Rattle.std.proofs.lemmas.List.{ext_get_or}
use Rattle.tda_model.specs.Schema.{Schema}
use Rattle.tda_model.specs.Cells.{is_possible, kind_of, possible_cells}
use Rattle.tda_model.specs.Spine.{nation_of, is_at, IsTree}
use Rattle.tda_model.specs.Tables.{Table, Tables, kind_sum, persons_in}
use Rattle.tda_model.specs.Least.{LeastRoot}
use Rattle.tda_model.specs.Bounds.{persons_limit, low, high, MostHolds, HasKinds}
use Rattle.tda_model.specs.Release.{Inputs, CanBe, deviation_at}
use Rattle.tda_model.proofs.Sums.{range_ascends, filter_ascends, sum_filter, sum_by_index}
use Rattle.tda_model.proofs.Attain.{kind_lt}
use Rattle.tda_schema.specs.Stated.{level_at}
use Rattle.tda_loss.specs.declared.Curve.{Curve}
use Rattle.tda_loss.specs.Curve.{value_of}
use Rattle.tda_flow.specs.declared.net.Term.{Term}
use Rattle.tda_flow.specs.Network.{IsSound}
use Rattle.tda_flow.specs.Flow.{IsCirculation, cost, IsLeast}
use Rattle.tda_groups.specs.Order.{group_at}
use Rattle.tda_groups.specs.Tree.{Tree, IsTreeOf}
use Rattle.tda_fitnet.specs.declared.name.ArcName.TheVariants.{Share, Give, Group}
use Rattle.tda_fitnet.specs.declared.layout.Layout.{Layout}
use Rattle.tda_fitnet.specs.Layout.{source_node, kind_node, share_place, give_place, group_place}
use Rattle.tda_groups.specs.Chains.{has_cell, smallest_of, next_of}
use Rattle.tda_fitnet.specs.Terms.{terms_of}
use Rattle.tda_fitnet.specs.Arcs.{states, state_at, cell_at, root_layout, root_network, source_arc, share_arc, give_arc, group_arc}
use Rattle.tda_fitnet.specs.Fits.{group_sum, net_curve, curve_of, AreShares, root_flow, RootAs}
use Rattle.tda_fitnet.proofs.Ranges.{below, below_same, length_all, at_source, at_share, at_give, at_group}
use Rattle.tda_fitnet.proofs.Places.{each_place}
use Rattle.tda_fitnet.proofs.Nodes.{below_off, below_at_row}
use Rattle.tda_fitnet.proofs.Inner.{tick}
use Rattle.tda_fitnet.proofs.GroupSums.{members, members_balance, balanced_is, members_sum, next_less, smallest_less}
use Rattle.tda_fitnet.proofs.GroupBounds.{Vanishes, kind_cells_sum, group_few}
use Rattle.tda_fitnet.proofs.Circulations.{Balances, balances_circulates, circulation_balances}
use Rattle.tda_fitnet.proofs.Costs.{terms_value, cost_is, unit_value, level_value}
use Rattle.tda_fitnet.proofs.NationShares.{attains_vanishes, shares_attain, attain_shares}
use Rattle.tda_fitnet.proofs.SplitFit.{rank_in, rank_at, cell_can, cell_in, cell_rank, cell_few}
use Rattle.tda_fitnet.proofs.SplitLeast.{cost_by_curve, le_from}

below_unit : (f : ℕ → ℕ) → below 1 f ≡ f 0
below_unit f = omega arith

module _ (i : Inputs) (tree : IsTree i.spine (nation_of i.spine)) (has : HasKinds i.schema) (most : MostHolds i.known)
    (fews : (x : Table) → CanBe i (nation_of i.spine) x → persons_in i.schema x ≤ persons_limit)
    (t : Tree) (is : IsTreeOf i.schema (level_at i.schema 0) t) where
  abbrev s : Schema
  s = i.schema

  abbrev groups : List (List ℕ)
  groups = t.groups

  abbrev nation : ℕ
  nation = nation_of i.spine

  abbrev cells : List ℕ
  cells = possible_cells i.schema

  abbrev L : Layout
  L = root_layout i groups

  abbrev small : ℕ → ℕ
  small r = smallest_of groups (cell_at i r)

  abbrev from : ℕ → ℕ
  from r = kind_node L (kind_of i.schema (cell_at i r))

  pub from_low : (r : ℕ) → r < L.cells → 1 ≤ from r
  from_low r l = omega arith

  pub from_high : (r : ℕ) → r < L.cells → from r < 1 + L.sources + L.kinds
  from_high r l = let k = kind_lt i.schema (cell_at i r) has.some (cell_in i r l) in omega arith

  pub small_in : (r : ℕ) → r < L.cells → small r < L.groups
  small_in r l = smallest_less groups is.groups cells is.whole (cell_at i r)

  pub down : (g : ℕ) → 1 ≤ g → g < L.groups → next_of groups g < g
  down g a b = next_less groups is.groups cells is.whole g a

  pub same_states : L.states ≤ L.sources
  same_states = omega arith

  abbrev slow : ℕ → ℕ → ℕ
  slow n k = low i.spine i.known (state_at i n) k

  abbrev shigh : ℕ → ℕ → ℕ
  shigh n k = high i.spine i.known (state_at i n) k

  abbrev terms : ℕ → ℕ → List Term
  terms u g = terms_of i (level_at i.schema 0) nation (group_at groups g)

  abbrev IsBalanced : List ℕ → Type 0
  IsBalanced flow = Balances L same_states from small (next_of groups) from_low from_high small_in down (λ n. i.known.total (state_at i n))
      slow shigh (λ u g. 0) (λ u g. persons_limit) (λ n k. Share (state_at i n) k) (λ u r. Give nation (cell_at i r)) (λ u g. Group nation g) terms flow

  balanced_circulates : (flow : List ℕ) → IsSound (root_network i groups) → IsBalanced flow → IsCirculation (root_network i groups) flow
  balanced_circulates flow sound b = balances_circulates L same_states from small (next_of groups) from_low from_high small_in down (λ n. i.known.total (state_at i n))
      slow shigh (λ u g. 0) (λ u g. persons_limit) (λ n k. Share (state_at i n) k) (λ u r. Give nation (cell_at i r)) (λ u g. Group nation g) terms flow sound b

  circulation_is_balanced : (flow : List ℕ) → IsCirculation (root_network i groups) flow → IsBalanced flow
  circulation_is_balanced flow c = circulation_balances L same_states from small (next_of groups) from_low from_high small_in down (λ n. i.known.total (state_at i n))
      slow shigh (λ u g. 0) (λ u g. persons_limit) (λ n k. Share (state_at i n) k) (λ u r. Give nation (cell_at i r)) (λ u g. Group nation g) terms flow c

  -- what goes out of a state's node is its shares
  state_out : (share give : ℕ → ℕ → ℕ) (n : ℕ) → n < L.sources
      → below L.states (λ m. below L.kinds (λ k. cond (eqb (source_node m) (source_node n)) (share m k) 0)) + below 1 (λ u. below L.cells (λ r. cond (eqb (from r) (source_node n)) (give u r) 0))
      ≡ below L.kinds (share n)
  state_out share give n ln =
      both _ _ _
      (below_at_row L.states L.kinds n (source_node n) (λ m k. source_node m) share ln (λ m k lm lk e. omega arith)
      ∙ below_same L.kinds _ (share n) (λ k lk. ap (λ b. cond b (share n k) 0) (eq-eqb (source_node n) (source_node n) refl)))
      (below_unit (λ u. below L.cells (λ r. cond (eqb (from r) (source_node n)) (give u r) 0)) ∙ below_off L.cells from (source_node n) (give 0) (λ r lr e. omega arith))
    where
      both : (a b c : ℕ) → a ≡ c → b ≡ 0 → a + b ≡ c
      both a b c h k = omega arith

  -- what goes out of a kind's node is what its cells are given
  kind_out : (give : ℕ → ℕ → ℕ) (x : Table) → Vanishes i.schema x → ((r : ℕ) → r < L.cells → give 0 r ≡ x (cell_at i r)) → (k : ℕ)
      → below 1 (λ u. below L.cells (λ r. cond (eqb (from r) (kind_node L k)) (give u r) 0)) ≡ kind_sum i.schema k x
  kind_out give x none gives k =
      below_unit (λ u. below L.cells (λ r. cond (eqb (from r) (kind_node L k)) (give u r) 0))
      ∙ below_same L.cells _ (λ r. cond (kind_of s (cell_at i r) == k) (x (cell_at i r)) 0) (λ r lr.
      ap (λ n. cond (eqb (from r) (kind_node L k)) n 0) (gives r lr) ∙ ap (λ b. cond b (x (cell_at i r)) 0) (elim (cases_eq (kind_of s (cell_at i r)) k) [
        | inl e ↦ eq-eqb _ _ (ap (kind_node L) e) ∙ sym (eq-eqb _ _ e)
        | inr ne ↦ ne_eqb _ _ (λ e. ne (omega arith)) ∙ sym (ne_eqb _ _ ne)
      ]))
      ∙ sym (sum_by_index (λ j. cond (kind_of s j == k) (x j) 0) cells 0)
      ∙ sym (sum_filter x (λ j. kind_of s j == k) cells)
      ∙ kind_cells_sum s k x none

  -- ---- from a circulation to a table with shares
  module _ (flow : List ℕ) (b : IsBalanced flow) where
    abbrev share : ℕ → ℕ → ℕ
    share n k = slice_index flow (share_place L n k)

    abbrev give : ℕ → ℕ → ℕ
    give u r = slice_index flow (give_place L u r)

    abbrev pass : ℕ → ℕ → ℕ
    pass u g = slice_index flow (group_place L u g)

    abbrev pub table_of : Table
    table_of j = cond (is_possible i.schema j) (give 0 (rank_in (possible_cells i.schema) j)) 0

    abbrev pub shares_of : Tables
    shares_of st k = share (rank_in (states i) st) k

    vanishes : Vanishes i.schema table_of
    vanishes j l never = ap (λ v. cond v (give 0 (rank_in cells j)) 0) never

    table_at : (r : ℕ) → r < L.cells → table_of (cell_at i r) ≡ give 0 r
    table_at r lr = ap (λ v. cond v (give 0 (rank_in cells (cell_at i r))) 0) (cell_can i r lr) ∙ ap (give 0) (cell_rank i r lr)

    shares_at : (n k : ℕ) → n < L.states → shares_of (state_at i n) k ≡ share n k
    shares_at n k ln = ap (λ m. share m k) (rank_at (states i) (filter_ascends (is_at i.spine 1) _ (range_ascends 0 (length i.spine.units))) n ln)

    unit_is : (u : ℕ) → u < 1 → u ≡ 0
    unit_is u l = omega arith

    pass_is : (g : ℕ) → g < L.groups → pass 0 g ≡ group_sum groups table_of g
    pass_is g lg =
        balanced_is groups is.groups cells is.whole (give 0) (pass 0) (λ h lh. b.at_groups 0 h (omega arith) lh) g lg
        ∙ below_same L.cells _ (λ r. tick (table_of (cell_at i r)) (has_cell groups (cell_at i r) g)) (λ r lr. ap (λ n. tick n (has_cell groups (cell_at i r) g)) (sym (table_at r lr)))
        ∙ members_sum groups is.groups cells is.whole table_of g lg

    pub shares_are : AreShares i table_of shares_of
    shares_are = record {
      enough = λ n k ln lk. subst (λ m. slow n k ≤ m) (sym (shares_at n k ln)) (b.shares n k ln lk).0;
      not_more = λ n k ln lk. subst (λ m. m ≤ shigh n k) (sym (shares_at n k ln)) (b.shares n k ln lk).1;
      totals = λ n ln. below_same L.kinds (shares_of (state_at i n)) (share n) (λ k lk. shares_at n k ln) ∙ sym (b.at_sources n ln ∙ state_out share give n ln);
      kinds = λ k lk.
          sum_by_index (λ st. shares_of st k) (states i) 0
          ∙ below_same L.states _ (λ n. share n k) (λ n ln. shares_at n k ln)
          ∙ b.at_kinds k lk
          ∙ kind_out give table_of vanishes (λ r lr. sym (table_at r lr)) k;
    }

    pub table_is : CanBe i (nation_of i.spine) table_of
    table_is = shares_attain i tree most has.some table_of shares_of vanishes shares_are

    pub flow_is : flow ≡ root_flow i groups shares_of table_of
    flow_is =
        let source_flow : ℕ → ℕ = λ n. i.known.total (state_at i n) in
        let share_flow : ℕ → ℕ → ℕ = λ n k. shares_of (state_at i n) k in
        let give_flow : ℕ → ℕ → ℕ = λ u r. table_of (cell_at i r) in
        let group_flow : ℕ → ℕ → ℕ = λ u g. group_sum groups table_of g in
        let count = length_all L source_flow share_flow give_flow group_flow in
        ext_get_or 0 flow (root_flow i groups shares_of table_of) (b.count ∙ sym count) (λ k lk. each_place L (λ k. get_or flow k 0 ≡ get_or (root_flow i groups shares_of table_of) k 0)
        (λ n ln. b.sources n ln ∙ sym (at_source L source_flow share_flow give_flow group_flow n 0 ln))
        (λ n k ln lk. sym (shares_at n k ln) ∙ sym (at_share L source_flow share_flow give_flow group_flow n k 0 ln lk))
        (λ u r lu lr. ap (λ v. give v r) (unit_is u lu) ∙ sym (table_at r lr) ∙ sym (at_give L source_flow share_flow give_flow group_flow u r 0 lu lr))
        (λ u g lu lg. ap (λ v. pass v g) (unit_is u lu) ∙ pass_is g lg ∙ sym (at_group L source_flow share_flow give_flow group_flow u g 0 lu lg))
        k (omega (arith, b.count)))

  -- ---- from a table with shares to a circulation
  module _ (x : Table) (shares : Tables) (can : CanBe i (nation_of i.spine) x) (are : AreShares i x shares) where
    abbrev sent : List ℕ
    sent = root_flow i groups shares x

    sent_source : (n : ℕ) → n < L.sources → slice_index sent n ≡ i.known.total (state_at i n)
    sent_source n ln = at_source L (λ n. i.known.total (state_at i n)) (λ n k. shares (state_at i n) k) (λ u r. x (cell_at i r)) (λ u g. group_sum groups x g) n 0 ln

    sent_share : (n k : ℕ) → n < L.states → k < L.kinds → slice_index sent (share_place L n k) ≡ shares (state_at i n) k
    sent_share n k ln lk = at_share L (λ n. i.known.total (state_at i n)) (λ n k. shares (state_at i n) k) (λ u r. x (cell_at i r)) (λ u g. group_sum groups x g) n k 0 ln lk

    sent_give : (u r : ℕ) → u < 1 → r < L.cells → slice_index sent (give_place L u r) ≡ x (cell_at i r)
    sent_give u r lu lr = at_give L (λ n. i.known.total (state_at i n)) (λ n k. shares (state_at i n) k) (λ u r. x (cell_at i r)) (λ u g. group_sum groups x g) u r 0 lu lr

    sent_group : (u g : ℕ) → u < 1 → g < L.groups → slice_index sent (group_place L u g) ≡ group_sum groups x g
    sent_group u g lu lg = at_group L (λ n. i.known.total (state_at i n)) (λ n k. shares (state_at i n) k) (λ u r. x (cell_at i r)) (λ u g. group_sum groups x g) u g 0 lu lg

    none : Vanishes i.schema x
    none = attains_vanishes i.schema i.spine i.known (nation_of i.spine) x can

    groups_balance : (u g : ℕ) → u < 1 → g < L.groups
        → below L.cells (λ r. cond (eqb (small r) g) (slice_index sent (give_place L u r)) 0) + below L.groups (λ h. cond (nat_lt 0 h && eqb (next_of groups h) g) (slice_index sent (group_place L u h)) 0)
        ≡ slice_index sent (group_place L u g)
    groups_balance u g lu lg =
        let y : ℕ → ℕ = λ r. x (cell_at i r) in
        both _ _ _ _
        (below_same L.cells _ (λ r. cond (eqb (small r) g) (y r) 0) (λ r lr. ap (λ n. cond (eqb (small r) g) n 0) (sent_give u r lu lr)))
        (below_same L.groups _ (λ h. cond (nat_lt 0 h && eqb (next_of groups h) g) (members groups is.groups cells is.whole y h) 0)
        (λ h lh. ap (λ n. cond (nat_lt 0 h && eqb (next_of groups h) g) n 0) (sent_group u h lu lh ∙ sym (members_sum groups is.groups cells is.whole x h lh))))
        ∙ members_balance groups is.groups cells is.whole y g lg
        ∙ members_sum groups is.groups cells is.whole x g lg
        ∙ sym (sent_group u g lu lg)
      where
        both : (a b c d : ℕ) → a ≡ b → c ≡ d → a + c ≡ b + d
        both a b c d h k = omega arith

    pub balanced : IsBalanced sent
    balanced = record {
      count = length_all L (λ n. i.known.total (state_at i n)) (λ n k. shares (state_at i n) k) (λ u r. x (cell_at i r)) (λ u g. group_sum groups x g);
      sources = sent_source;
      shares = λ n k ln lk. subst (λ m. (slow n k ≤ m) × (m ≤ shigh n k)) (sym (sent_share n k ln lk)) (are.enough n k ln lk, are.not_more n k ln lk);
      gives = λ u r lu lr. subst (λ n. n ≤ persons_limit) (sym (sent_give u r lu lr)) (through _ _ (cell_few i x (cell_at i r) (cell_in i r lr)) (fews x can));
      groups = λ u g lu lg. subst (λ n. (0 ≤ n) × (n ≤ persons_limit)) (sym (sent_group u g lu lg))
          (omega arith, through _ _ (group_few i has (level_at i.schema 0) t is (nation_of i.spine) x none g lg) (fews x can));
      at_sources = λ n ln.
          sym (are.totals n ln)
          ∙ below_same L.kinds (shares (state_at i n)) (λ k. slice_index sent (share_place L n k)) (λ k lk. sym (sent_share n k ln lk))
          ∙ sym (state_out (λ n k. slice_index sent (share_place L n k)) (λ u r. slice_index sent (give_place L u r)) n ln);
      at_kinds = λ k lk.
          below_same L.states _ (λ n. shares (state_at i n) k) (λ n ln. sent_share n k ln lk)
          ∙ sym (sum_by_index (λ st. shares st k) (states i) 0)
          ∙ are.kinds k lk
          ∙ sym (kind_out (λ u r. slice_index sent (give_place L u r)) x none (λ r lr. sent_give 0 r (omega arith) lr) k);
      at_groups = groups_balance;
    }
      where
        through : (a b : ℕ) → a ≤ b → b ≤ persons_limit → a ≤ persons_limit
        through a b h k = omega arith

  -- ---- costs
  pub root_costs : 0 < length i.schema.levels → (curve : ℤ → ℕ) (x : Table) (shares : Tables)
      → cost (net_curve curve) (root_network i t.groups) (root_flow i t.groups shares x) ≡ pos (deviation_at curve i (nation_of i.spine) x)
  root_costs deep curve x shares =
      let flow = root_flow i groups shares x in
      cost_is L (λ n. source_arc n (i.known.total (state_at i n))) (λ n k. share_arc i L n (state_at i n) k)
      (λ u r. give_arc L groups (kind_node L (kind_of i.schema (cell_at i r))) u nation (cell_at i r))
      (λ u g. group_arc i L groups (level_at i.schema 0) u nation g 0 persons_limit)
      (λ n. refl) (λ n k. refl) (λ u r. refl) curve flow
      ∙ ap pos (below_unit (λ u. below L.groups (λ g. terms_value curve (terms u g) (slice_index flow (group_place L u g))))
      ∙ below_same L.groups _ (λ g. terms_value curve (terms 0 g) (group_sum groups x g))
      (λ g lg. ap (terms_value curve (terms 0 g))
      (at_group L (λ n. i.known.total (state_at i n)) (λ n k. shares (state_at i n) k) (λ u r. x (cell_at i r)) (λ u g. group_sum groups x g) 0 g 0 (omega arith) lg))
      ∙ unit_value i (level_at i.schema 0) t is curve nation x
      ∙ sym (level_value curve i nation 0 x tree.root_level deep))

  -- the network of the root fit is exactly the nation's tables with their shares
  pub root_as : 0 < length i.schema.levels → IsSound (root_network i t.groups) → RootAs i t.groups
  root_as deep sound = record {
    has_shares = λ x can. attain_shares i tree most has.some x (fews x can) can;
    of_table = λ x shares can are. balanced_circulates (root_flow i groups shares x) sound (balanced x shares can are);
    of_flow = λ flow c. let b = circulation_is_balanced flow c in (table_of flow b, shares_of flow b, table_is flow b, shares_are flow b, flow_is flow b);
    costs = root_costs deep;
  }

  -- a least circulation stands for a least table
  pub least_root : 0 < length i.schema.levels → IsSound (root_network i t.groups) → (c : Curve) (x : Table) (shares : Tables) → CanBe i (nation_of i.spine) x
      → IsLeast (value_of c) (root_network i t.groups) (root_flow i t.groups shares x)
      → LeastRoot (CanBe i) (deviation_at (curve_of c) i) (nation_of i.spine) x
  least_root deep sound c x shares can least = record {
    can_be = can;
    least = λ z can_z.
        let net = root_network i groups in
        let sh = attain_shares i tree most has.some z (fews z can_z) can_z in
        le_from _ _ _ _
        (cost_by_curve c net (root_flow i groups shares x) _ (root_costs deep (curve_of c) x shares))
        (cost_by_curve c net (root_flow i groups sh.0 z) _ (root_costs deep (curve_of c) z sh.0))
        (least (root_flow i groups sh.0 z) (balanced_circulates (root_flow i groups sh.0 z) sound (balanced z sh.0 can_z sh.1)));
  }
