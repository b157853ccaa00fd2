-- The circulations of a split are exactly the families of tables that its children can have and that add up.
use Rattle.std.proofs.Common.{◌≡◌, ℕ, zero, suc, ◌+◌, ◌<◌, ◌≤◌, ◌&&◌, true, cond, eqb, nat_lt, List, [], ◌∷◌, length, get_or, slice_index, All, refl, sym, ap, ◌∙◌, subst, inl, inr, arith, ne_eqb, eq-eqb}
use Rattle.std.specs.List.{sum_by}
use Rattle.std.proofs.lemmas.Bool.{cases_Bool}
use Rattle.std.proofs.lemmas.List.{ext_get_or, get_or_default}
use Rattle.std.proofs.lemmas.List.Elements.{All-from_recursion, All-from_get_or, Contains-get_or}
use Rattle.std.proofs.lemmas.List.Sums.{get_or-le-sum_by}
use Rattle.tda_model.specs.Schema.{Schema}
use Rattle.tda_model.specs.Cells.{cell_count, is_possible, all_cells, possible_cells}
use Rattle.tda_model.specs.Spine.{level_of, nation_of, children_of, is_child, IsUnit, HasParent, IsTree}
use Rattle.tda_model.specs.Tables.{Table, Tables, persons_in, Attainable}
use Rattle.tda_model.specs.Least.{IsFamily}
use Rattle.tda_model.specs.Bounds.{persons_limit, low, high, InBounds, MostHolds, HasKinds}
use Rattle.tda_model.specs.Release.{Inputs, CanBe}
use Rattle.tda_model.proofs.Sums.{Ascends, range_ascends, filter_ascends, sum_same, sum_zero, sum_by_index, each_filter, each_range, each_any, range_each, each_le_sum}
use Rattle.tda_model.proofs.Tree.{child_tells}
use Rattle.tda_model.proofs.Attain.{persons_add, attains_in_bounds, in_bounds_attains}
use Rattle.tda_sets.proofs.Members.{Contains-passing, passing_below, filter_holds}
use Rattle.tda_schema.specs.Stated.{level_at}
use Rattle.tda_flow.specs.declared.net.Term.{Term}
use Rattle.tda_flow.specs.Network.{IsSound}
use Rattle.tda_flow.specs.Flow.{IsCirculation}
use Rattle.tda_groups.specs.Order.{group_at}
use Rattle.tda_groups.specs.Tree.{Tree, IsTreeOf}
use Rattle.tda_fitnet.specs.declared.name.ArcName.TheVariants.{Share, Give, Group}
use Rattle.tda_fitnet.specs.declared.layout.Layout.{Layout}
use Rattle.tda_fitnet.specs.Layout.{source_node, give_place, group_place}
use Rattle.tda_groups.specs.Chains.{has_cell, smallest_of, next_of}
use Rattle.tda_fitnet.specs.Terms.{terms_of, group_low, group_high}
use Rattle.tda_fitnet.specs.Arcs.{cell_at, child_at, split_layout, split_network}
use Rattle.tda_fitnet.specs.Fits.{group_sum, split_flow}
use Rattle.tda_fitnet.proofs.Ranges.{below, below_same, length_all, at_source, at_give, at_group}
use Rattle.tda_fitnet.proofs.Places.{each_place}
use Rattle.tda_fitnet.proofs.Nodes.{below_at}
use Rattle.tda_fitnet.proofs.Inner.{tick}
use Rattle.tda_fitnet.proofs.GroupSums.{members, members_balance, balanced_is, members_sum, next_less, smallest_less}
use Rattle.tda_fitnet.proofs.GroupBounds.{Vanishes, bounds_within, within_bounds}
use Rattle.tda_fitnet.proofs.Circulations.{Balances, balances_circulates, circulation_balances}

-- where a number stands in a list
abbrev pub rank_in : List ℕ → ℕ → ℕ
rank_in [] v = 0
rank_in (x ∷ xs) v = cond (eqb x v) 0 (suc (rank_in xs v))

pub rank_at : (xs : List ℕ) → Ascends xs → (k : ℕ) → k < length xs → rank_in xs (get_or xs k 0) ≡ k
rank_at [] up k l = absurd (omega arith)
rank_at (x ∷ xs) up zero l = ap (λ b. cond b 0 (suc (rank_in xs x))) (eq-eqb x x refl)
rank_at (x ∷ xs) up (suc k) l =
    let more : x < get_or xs k 0 = All-from_recursion (λ y. x < y) xs up.0 k 0 (omega arith) in
    ap (λ b. cond b 0 (suc (rank_in xs (get_or xs k 0)))) (ne_eqb x (get_or xs k 0) (λ e. omega arith)) ∙ ap suc (rank_at xs up.1 k (omega arith))

-- what fits have in common: the cells
module _ (i : Inputs) where
  abbrev s : Schema
  s = i.schema

  abbrev cells : List ℕ
  cells = possible_cells i.schema

  pub cell_can : (r : ℕ) → r < length cells → is_possible i.schema (cell_at i r) ≡ true
  cell_can r l = filter_holds (is_possible s) (all_cells s) (cell_at i r) (Contains-get_or cells r 0 l)

  pub cell_in : (r : ℕ) → r < length cells → cell_at i r < cell_count i.schema
  cell_in r l = passing_below (is_possible s) (cell_count s) (cell_at i r) (Contains-get_or cells r 0 l)

  pub cell_rank : (r : ℕ) → r < length cells → rank_in cells (cell_at i r) ≡ r
  cell_rank r l = rank_at cells (filter_ascends (is_possible s) _ (range_ascends 0 (cell_count s))) r l

  pub record IsCell (j : ℕ) : Type 0 where
    pub rank : ℕ
    pub low : rank < length cells
    pub is : cell_at i rank ≡ j

  pub is_cell : (j : ℕ) → j < cell_count i.schema → is_possible i.schema j ≡ true → IsCell j
  is_cell j l can =
      let found = Contains-passing (is_possible s) (cell_count s) j l can in
      record { rank = found.0; low = found.1; is = get_or_default cells found.0 0 j found.1 ∙ found.2 }

  pub cell_few : (y : Table) (j : ℕ) → j < cell_count i.schema → y j ≤ persons_in i.schema y
  cell_few y j l = range_each (λ k. y k ≤ persons_in s y) 0 (cell_count s) (each_le_sum y (all_cells s)) j (omega arith) (omega arith)

module _ (i : Inputs) (tree : IsTree i.spine (nation_of i.spine)) (has : HasKinds i.schema) (most : MostHolds i.known)
    (p : ℕ) (here : IsUnit i.spine p) (t : Tree) (is : IsTreeOf i.schema (level_at i.schema (level_of i.spine p + 1)) t)
    (x : Table) (none : Vanishes i.schema x) (few : persons_in i.schema x ≤ persons_limit) where
  abbrev groups : List (List ℕ)
  groups = t.groups

  abbrev children : List ℕ
  children = children_of i.spine p

  abbrev L : Layout
  L = split_layout i groups p

  abbrev small : ℕ → ℕ
  small r = smallest_of groups (cell_at i r)

  abbrev child : ℕ → ℕ
  child u = child_at i p u

  abbrev glow : ℕ → ℕ → ℕ
  glow u g = group_low i (child u) g (group_at groups g)

  abbrev ghigh : ℕ → ℕ → ℕ
  ghigh u g = group_high i (child u) g (group_at groups g)

  abbrev terms : ℕ → ℕ → List Term
  terms u g = terms_of i (level_at i.schema (level_of i.spine p + 1)) (child u) (group_at groups g)

  pub from_low : (r : ℕ) → r < L.cells → 1 ≤ source_node r
  from_low r l = omega arith

  pub from_high : (r : ℕ) → r < L.cells → source_node r < 1 + L.sources + L.kinds
  from_high r l = omega arith

  pub small_in : (r : ℕ) → r < L.cells → small r < L.groups
  small_in r l = smallest_less groups is.groups (possible_cells i.schema) is.whole (cell_at i r)

  pub down : (g : ℕ) → 1 ≤ g → g < L.groups → next_of groups g < g
  down g a b = next_less groups is.groups (possible_cells i.schema) is.whole g a

  pub no_states : L.states ≤ L.sources
  no_states = omega arith

  abbrev IsBalanced : List ℕ → Type 0
  IsBalanced flow = Balances L no_states source_node small (next_of groups) from_low from_high small_in down (λ r. x (cell_at i r))
      (λ n k. low i.spine i.known n k) (λ n k. high i.spine i.known n k) glow ghigh
      (λ n k. Share n k) (λ u r. Give (child u) (cell_at i r)) (λ u g. Group (child u) g) terms flow

  balanced_circulates : (flow : List ℕ) → IsSound (split_network i groups p x) → IsBalanced flow → IsCirculation (split_network i groups p x) flow
  balanced_circulates flow sound b = balances_circulates L no_states source_node small (next_of groups) from_low from_high small_in down (λ r. x (cell_at i r))
      (λ n k. low i.spine i.known n k) (λ n k. high i.spine i.known n k) glow ghigh
      (λ n k. Share n k) (λ u r. Give (child u) (cell_at i r)) (λ u g. Group (child u) g) terms flow sound b

  circulation_is_balanced : (flow : List ℕ) → IsCirculation (split_network i groups p x) flow → IsBalanced flow
  circulation_is_balanced flow c = circulation_balances L no_states source_node small (next_of groups) from_low from_high small_in down (λ r. x (cell_at i r))
      (λ n k. low i.spine i.known n k) (λ n k. high i.spine i.known n k) glow ghigh
      (λ n k. Share n k) (λ u r. Give (child u) (cell_at i r)) (λ u g. Group (child u) g) terms flow c

  abbrev pub IsChild : ℕ → Type 0
  IsChild c = IsUnit i.spine c × HasParent i.spine c p

  pub children_are : All IsChild children
  children_are = All-from_recursion IsChild children (each_filter _ (is_child i.spine p) _ (each_range _ 0 (length i.spine.units)
      (λ c from to e. (omega arith, child_tells i.spine (nation_of i.spine) tree p c (omega arith) e))))

  child_is : (u : ℕ) → u < length children → IsChild (child u)
  child_is u l = children_are u 0 l

  child_below : (u : ℕ) → u < length children → 1 ≤ level_of i.spine (child u)
  child_below u l = let above : level_of i.spine (child u) ≡ level_of i.spine p + 1 = (child_is u l).1.above in omega arith

  child_rank : (u : ℕ) → u < length children → rank_in children (child u) ≡ u
  child_rank u l = rank_at children (filter_ascends (is_child i.spine p) _ (range_ascends 0 (length i.spine.units))) u l

  -- ---- from a circulation to a family
  module _ (flow : List ℕ) (b : IsBalanced flow) where
    abbrev give : ℕ → ℕ → ℕ
    give u r = slice_index flow (give_place L u r)

    abbrev pass : ℕ → ℕ → ℕ
    pass u g = slice_index flow (group_place L u g)

    abbrev pub family_of : Tables
    family_of c j = cond (is_possible i.schema j) (give (rank_in children c) (rank_in (possible_cells i.schema) j)) 0

    vanishes : (c : ℕ) → Vanishes i.schema (family_of c)
    vanishes c j l never = ap (λ v. cond v (give (rank_in children c) (rank_in (possible_cells i.schema) j)) 0) never

    family_at : (u r : ℕ) → u < length children → r < L.cells → family_of (child u) (cell_at i r) ≡ give u r
    family_at u r lu lr =
        ap (λ v. cond v (give (rank_in children (child u)) (rank_in (possible_cells i.schema) (cell_at i r))) 0) (cell_can i r lr)
        ∙ ap (λ v. give v (rank_in (possible_cells i.schema) (cell_at i r))) (child_rank u lu) ∙ ap (give u) (cell_rank i r lr)

    pass_is : (u g : ℕ) → u < length children → g < L.groups → pass u g ≡ group_sum groups (family_of (child u)) g
    pass_is u g lu lg =
        balanced_is groups is.groups (possible_cells i.schema) is.whole (give u) (pass u) (λ h lh. b.at_groups u h lu lh) g lg
        ∙ below_same L.cells _ (λ r. tick (family_of (child u) (cell_at i r)) (has_cell groups (cell_at i r) g))
        (λ r lr. ap (λ n. tick n (has_cell groups (cell_at i r) g)) (sym (family_at u r lu lr)))
        ∙ members_sum groups is.groups (possible_cells i.schema) is.whole (family_of (child u)) g lg

    child_in_bounds : (u : ℕ) → u < length children → InBounds i.schema i.spine i.known (child u) (family_of (child u))
    child_in_bounds u lu = within_bounds i has (level_at i.schema (level_of i.spine p + 1)) t is (child u) (family_of (child u)) (vanishes (child u)) (record {
      within = λ g lg. subst (λ n. (glow u g ≤ n) × (n ≤ ghigh u g)) (pass_is u g lu lg) (b.groups u g lu lg);
    })

    adds_at : (j : ℕ) → j < cell_count i.schema → x j ≡ sum_by (λ c. family_of c j) children
    adds_at j l = elim (cases_Bool (is_possible i.schema j)) [
      | inl can ↦
          let c = is_cell i j l can in
          let r = c.rank in
          ap x (sym c.is) ∙ b.at_sources r c.low
          ∙ zero_plus _
          ∙ below_same (length children) _ (λ u. family_of (child u) (cell_at i r))
          (λ u lu. below_at L.cells r (source_node r) source_node (give u) c.low refl (λ q lq e. omega arith) ∙ sym (family_at u r lu c.low))
          ∙ sym (sum_by_index (λ d. family_of d (cell_at i r)) children 0)
          ∙ ap (λ k. sum_by (λ d. family_of d k) children) c.is
      | inr never ↦ none j l never ∙ sym (sum_zero children) ∙ sum_same (λ d. 0) (λ d. family_of d j) children (each_any _ children (λ d. sym (vanishes d j l never)))
    ]
      where
        zero_plus : (n : ℕ) → 0 + n ≡ n
        zero_plus n = omega arith

    pub family_is : IsFamily (CanBe i) i.schema children x family_of
    family_is = record {
      can_be = All-from_get_or (λ c. Attainable i.schema i.spine i.known c (family_of c)) children 0
          (λ u lu. in_bounds_attains i.spine (nation_of i.spine) tree i.schema i.known (child u) (child_is u lu).0 (child_below u lu) most (family_of (child u)) (child_in_bounds u lu));
      adds = adds_at;
    }

    pub flow_is : flow ≡ split_flow i groups p x family_of
    flow_is =
        let source_flow : ℕ → ℕ = λ r. x (cell_at i r) in
        let share_flow : ℕ → ℕ → ℕ = λ n k. 0 in
        let give_flow : ℕ → ℕ → ℕ = λ u r. family_of (child u) (cell_at i r) in
        let group_flow : ℕ → ℕ → ℕ = λ u g. group_sum groups (family_of (child u)) g in
        let count = length_all L source_flow share_flow give_flow group_flow in
        ext_get_or 0 flow (split_flow i groups p x family_of) (b.count ∙ sym count) (λ k low. each_place L (λ k. get_or flow k 0 ≡ get_or (split_flow i groups p x family_of) k 0)
        (λ n ln. b.sources n ln ∙ sym (at_source L source_flow share_flow give_flow group_flow n 0 ln))
        (λ n k ln lk. absurd (omega arith))
        (λ u r lu lr. sym (family_at u r lu lr) ∙ sym (at_give L source_flow share_flow give_flow group_flow u r 0 lu lr))
        (λ u g lu lg. pass_is u g lu lg ∙ sym (at_group L source_flow share_flow give_flow group_flow u g 0 lu lg))
        k (omega (arith, b.count)))

  -- ---- from a family to a circulation
  module _ (family : Tables) (fam : IsFamily (CanBe i) i.schema (children_of i.spine p) x family) where
    abbrev table : ℕ → Table
    table u = family (child u)

    table_few : (u : ℕ) → u < length children → persons_in i.schema (table u) ≤ persons_limit
    table_few u lu = at_most _ _ _ (get_or-le-sum_by (λ c. persons_in i.schema (family c)) children u 0 lu) (sym (persons_add i.schema children family x fam.adds)) few
      where
        at_most : (a b c : ℕ) → a ≤ b → b ≡ c → c ≤ persons_limit → a ≤ persons_limit
        at_most a b c h e k = omega arith

    table_in_bounds : (u : ℕ) → u < length children → InBounds i.schema i.spine i.known (child u) (table u)
    table_in_bounds u lu = attains_in_bounds i.spine (nation_of i.spine) tree i.schema i.known (child u) (child_is u lu).0 (child_below u lu) (table u) (table_few u lu) (fam.can_be u 0 lu)

    abbrev sent : List ℕ
    sent = split_flow i groups p x family

    sent_source : (n : ℕ) → n < L.sources → slice_index sent n ≡ x (cell_at i n)
    sent_source n ln = at_source L (λ r. x (cell_at i r)) (λ n k. 0) (λ u r. table u (cell_at i r)) (λ u g. group_sum groups (table u) g) n 0 ln

    sent_give : (u r : ℕ) → u < length children → r < L.cells → slice_index sent (give_place L u r) ≡ table u (cell_at i r)
    sent_give u r lu lr = at_give L (λ r. x (cell_at i r)) (λ n k. 0) (λ u r. table u (cell_at i r)) (λ u g. group_sum groups (table u) g) u r 0 lu lr

    sent_group : (u g : ℕ) → u < length children → g < L.groups → slice_index sent (group_place L u g) ≡ group_sum groups (table u) g
    sent_group u g lu lg = at_group L (λ r. x (cell_at i r)) (λ n k. 0) (λ u r. table u (cell_at i r)) (λ u g. group_sum groups (table u) g) u g 0 lu lg

    groups_balance : (u g : ℕ) → u < length children → g < L.groups
        → below L.cells (λ r. cond (eqb (small r) g) (slice_index sent (give_place L u r)) 0) + below L.groups (λ h. cond (nat_lt 0 h && eqb (next_of groups h) g) (slice_index sent (group_place L u h)) 0)
        ≡ slice_index sent (group_place L u g)
    groups_balance u g lu lg =
        let y : ℕ → ℕ = λ r. table u (cell_at i r) in
        both _ _ _ _
        (below_same L.cells _ (λ r. cond (eqb (small r) g) (y r) 0) (λ r lr. ap (λ n. cond (eqb (small r) g) n 0) (sent_give u r lu lr)))
        (below_same L.groups _ (λ h. cond (nat_lt 0 h && eqb (next_of groups h) g) (members groups is.groups (possible_cells i.schema) is.whole y h) 0)
        (λ h lh. ap (λ n. cond (nat_lt 0 h && eqb (next_of groups h) g) n 0) (sent_group u h lu lh ∙ sym (members_sum groups is.groups (possible_cells i.schema) is.whole (table u) h lh))))
        ∙ members_balance groups is.groups (possible_cells i.schema) is.whole y g lg
        ∙ members_sum groups is.groups (possible_cells i.schema) is.whole (table u) g lg
        ∙ sym (sent_group u g lu lg)
      where
        both : (a b c d : ℕ) → a ≡ b → c ≡ d → a + c ≡ b + d
        both a b c d h k = omega arith

    -- so no group's bounds are the wrong way round
    pub bounds_fit : (u g : ℕ) → u < length children → g < L.groups → glow u g ≤ ghigh u g
    bounds_fit u g lu lg =
        let w = (bounds_within i has (level_at i.schema (level_of i.spine p + 1)) t is (child u) (table u) (table_in_bounds u lu) (table_few u lu)).within g lg in
        omega (arith, w.0, w.1)

    pub balanced : IsBalanced sent
    balanced = record {
      count = length_all L (λ r. x (cell_at i r)) (λ n k. 0) (λ u r. table u (cell_at i r)) (λ u g. group_sum groups (table u) g);
      sources = sent_source;
      shares = λ n k ln lk. absurd (omega arith);
      gives = λ u r lu lr. subst (λ n. n ≤ persons_limit) (sym (sent_give u r lu lr)) (through _ _ (cell_few i (table u) (cell_at i r) (cell_in i r lr)) (table_few u lu));
      groups = λ u g lu lg. subst (λ n. (glow u g ≤ n) × (n ≤ ghigh u g)) (sym (sent_group u g lu lg))
          ((bounds_within i has (level_at i.schema (level_of i.spine p + 1)) t is (child u) (table u) (table_in_bounds u lu) (table_few u lu)).within g lg);
      at_sources = λ n ln.
          fam.adds (cell_at i n) (cell_in i n ln)
          ∙ sum_by_index (λ c. family c (cell_at i n)) children 0
          ∙ below_same (length children) _ (λ u. below L.cells (λ r. cond (eqb (source_node r) (source_node n)) (slice_index sent (give_place L u r)) 0))
          (λ u lu. sym (sent_give u n lu ln) ∙ sym (below_at L.cells n (source_node n) source_node (λ r. slice_index sent (give_place L u r)) ln refl (λ q lq e. omega arith)))
          ∙ plus_zero _;
      at_kinds = λ k lk. absurd (omega arith);
      at_groups = groups_balance;
    }
      where
        through : (a b : ℕ) → a ≤ b → b ≤ persons_limit → a ≤ persons_limit
        through a b h k = omega arith

        plus_zero : (n : ℕ) → n ≡ 0 + n
        plus_zero n = omega arith

  pub split_of_family : IsSound (split_network i groups p x) → (family : Tables) → IsFamily (CanBe i) i.schema (children_of i.spine p) x family
      → IsCirculation (split_network i groups p x) (split_flow i groups p x family)
  split_of_family sound family fam = balanced_circulates (split_flow i groups p x family) sound (balanced family fam)

  pub split_of_flow : (flow : List ℕ) → IsCirculation (split_network i groups p x) flow
      → (family : Tables) × IsFamily (CanBe i) i.schema (children_of i.spine p) x family × (flow ≡ split_flow i groups p x family)
  split_of_flow flow c = let b = circulation_is_balanced flow c in (family_of flow b, family_is flow b, flow_is flow b)
