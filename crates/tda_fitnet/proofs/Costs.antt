-- What a flow over a fit's arcs costs is the sum over its groups, and that is the deviation of the tables for which it stands.
use Rattle.std.proofs.Common.{◌≡◌, ℕ, ◌+◌, ◌*◌, ◌<◌, cond, eqb, List, [], ◌∷◌, ◌++◌, length, get_or, slice_index, map, filter, Contains, Option, Some, None, slice_get, ℤ, pos, nat_abs, ◌-ℤ◌, ◌*ℤ◌, ◌≤ℤ◌, refl, sym, ap, ◌∙◌, inl, inr, arith, ne_eqb, eq-eqb}
use Rattle.std.proofs.lemmas.Int.{ints}
use Rattle.std.proofs.lemmas.Bool.{cases_Bool}
use Rattle.std.specs.List.{sum_by, range_with_len}
use Rattle.std.specs.Str.{bytes_eq}
use Rattle.std.proofs.lemmas.Slice.Eq.{bytes_eq-Decides}
use Rattle.std.proofs.lemmas.List.{get_or-map}
use Rattle.std.proofs.lemmas.List.Elements.{recursion_from_All}
use Rattle.std.proofs.lemmas.List.Sums.{sum_by-cons}
use Rattle.std.proofs.lemmas.Option.{slice_get-get_or}
use Rattle.tda_model.specs.Commons.{common_of}
use Rattle.tda_model.specs.Schema.{Schema, Level, Query}
use Rattle.tda_model.specs.Groups.{class_cells, classes_of}
use Rattle.tda_model.specs.Spine.{level_of}
use Rattle.tda_model.specs.Tables.{Table}
use Rattle.tda_model.specs.Deviation.{weight_of, query_deviation, deviation_from, deviation}
use Rattle.tda_model.specs.Release.{Inputs, deviation_at}
use Rattle.tda_model.proofs.Sums.{Each, sum_same, sum_zero, sum_add, sum_swap, sum_filter, sum_by_index}
use Rattle.tda_sets.proofs.Members.{All-from_Contains}
use Rattle.tda_schema.specs.Stated.{level_at}
use Rattle.tda_flow.specs.declared.net.Term.{Term}
use Rattle.tda_flow.specs.Network.{Network, arc_count, terms_at, term_at, no_term}
use Rattle.tda_flow.specs.Flow.{arc_cost, cost}
use Rattle.tda_flow.proofs.Sums.{sum_below-ext}
use Rattle.tda_groups.specs.Order.{group_at}
use Rattle.tda_groups.specs.Tree.{Tree, IsTreeOf, class_at}
use Rattle.tda_groups.proofs.Chained.{same_group}
use Rattle.tda_fitnet.specs.declared.layout.Layout.{Layout}
use Rattle.tda_fitnet.specs.Layout.{layout_list, arc_number, share_place, give_place, group_place}
use Rattle.tda_fitnet.specs.Terms.{query_terms, terms_from, terms_of}
use Rattle.tda_fitnet.specs.Arcs.{NamedArc, network_of}
use Rattle.tda_fitnet.specs.Fits.{group_sum, net_curve}
use Rattle.tda_fitnet.proofs.Ranges.{below, below_same, place_below, length_all, at_source, at_share, at_give, at_group}
use Rattle.tda_fitnet.proofs.Places.{sum_places, pos_below, no_named, arc_count_is}
use Rattle.tda_fitnet.proofs.Nodes.{below_one, below_none}
use Rattle.tda_fitnet.proofs.GroupBounds.{placed}

pub sum_append : {X : Type 0} (f : X → ℕ) (xs ys : List X) → sum_by f (xs ++ ys) ≡ sum_by f xs + sum_by f ys
sum_append f [] ys = omega arith
sum_append f (x ∷ xs) ys = omega (arith, sum_by-cons f x (xs ++ ys), sum_by-cons f x xs, sum_append f xs ys)

pub sum_map : {X Y : Type 0} (f : Y → ℕ) (g : X → Y) (xs : List X) → sum_by f (map g xs) ≡ sum_by (λ x. f (g x)) xs
sum_map f g [] = refl
sum_map f g (x ∷ xs) = omega (arith, sum_by-cons f (g x) (map g xs), sum_by-cons (λ x. f (g x)) x xs, sum_map f g xs)

-- what a flow x costs at terms
abbrev pub term_value : (ℤ → ℕ) → ℕ → Term → ℕ
term_value curve x t = t.weight * curve (pos x -ℤ t.target)

abbrev pub terms_value : (ℤ → ℕ) → List Term → ℕ → ℕ
terms_value curve terms x = sum_by (term_value curve x) terms

times_pos : (a b : ℕ) → pos a *ℤ pos b ≡ pos (a * b)
times_pos a b = omega (arith, ints)

pub arc_cost_is : (curve : ℤ → ℕ) (terms : List Term) (x : ℕ) → arc_cost (net_curve curve) terms x ≡ pos (terms_value curve terms x)
unfolding arc_cost
arc_cost_is curve terms x =
    sum_below-ext (length terms) _ (λ k. pos (term_value curve x (term_at terms k))) (λ k l. times_pos (term_at terms k).weight (curve (pos x -ℤ (term_at terms k).target)))
    ∙ pos_below (length terms) (λ k. term_value curve x (term_at terms k))
    ∙ ap pos (sym (sum_by_index (term_value curve x) terms no_term))

-- ---- over all arcs, where groups' arcs alone have terms
module _ (l : Layout) (source : ℕ → NamedArc) (share give group : ℕ → ℕ → NamedArc)
    (no_source : (n : ℕ) → (source n).terms ≡ []) (no_share : (n k : ℕ) → (share n k).terms ≡ []) (no_give : (u r : ℕ) → (give u r).terms ≡ []) where
  abbrev arcs : List NamedArc
  arcs = layout_list l source share give group

  abbrev net : Network
  net = network_of l arcs

  terms_at_is : (k : ℕ) → k < arc_number l → terms_at net k ≡ (get_or arcs k no_named).terms
  terms_at_is k low = get_or-map (λ a. a.terms) arcs k no_named [] (omega (arith, length_all l source share give group))

  nothing : (curve : ℤ → ℕ) (terms : List Term) (x : ℕ) → terms ≡ [] → terms_value curve terms x ≡ 0
  nothing curve terms x e = ap (λ ts. terms_value curve ts x) e

  no_sum : (m n : ℕ) (f : ℕ → ℕ → ℕ) → ((a b : ℕ) → a < m → b < n → f a b ≡ 0) → below m (λ a. below n (f a)) ≡ 0
  no_sum m n f h = below_none m (λ a. below n (f a)) (λ a la. below_none n (f a) (λ b lb. h a b la lb))

  pub cost_is : (curve : ℤ → ℕ) (flow : List ℕ) → cost (net_curve curve) net flow
      ≡ pos (below l.units (λ u. below l.groups (λ g. terms_value curve (group u g).terms (slice_index flow (group_place l u g)))))
  unfolding cost
  cost_is curve flow =
      let at : ℕ → ℕ = λ k. terms_value curve (terms_at net k) (slice_index flow k) in
      let groups = below l.units (λ u. below l.groups (λ g. terms_value curve (group u g).terms (slice_index flow (group_place l u g)))) in
      let here : (k : ℕ) (ts : List Term) → k < arc_number l → (get_or arcs k no_named).terms ≡ ts → at k ≡ terms_value curve ts (slice_index flow k) =
      λ k ts low e. ap (λ z. terms_value curve z (slice_index flow k)) (terms_at_is k low ∙ e) in
      sum_below-ext (arc_count net) _ (λ k. pos (at k)) (λ k low. arc_cost_is curve (terms_at net k) (slice_index flow k))
      ∙ pos_below (arc_count net) at
      ∙ ap pos (ap (λ n. below n at) (arc_count_is l arcs ∙ length_all l source share give group) ∙ sum_places l at
      ∙ four _ _ _ _
      (below_none l.sources at (λ n ln. here n [] (omega arith) (ap (λ a. a.terms) (at_source l source share give group n no_named ln) ∙ no_source n)))
      (no_sum l.states l.kinds (λ n k. at (share_place l n k)) (λ n k ln lk. here (share_place l n k) [] (let b = place_below l.states l.kinds n k ln lk in omega arith)
      (ap (λ a. a.terms) (at_share l source share give group n k no_named ln lk) ∙ no_share n k)))
      (no_sum l.units l.cells (λ u r. at (give_place l u r)) (λ u r lu lr. here (give_place l u r) [] (let b = place_below l.units l.cells u r lu lr in omega arith)
      (ap (λ a. a.terms) (at_give l source share give group u r no_named lu lr) ∙ no_give u r)))
      ∙ below_same l.units _ (λ u. below l.groups (λ g. terms_value curve (group u g).terms (slice_index flow (group_place l u g)))) (λ u lu.
      below_same l.groups (λ g. at (group_place l u g)) _ (λ g lg. here (group_place l u g) (group u g).terms (let b = place_below l.units l.groups u g lu lg in omega arith)
      (ap (λ a. a.terms) (at_group l source share give group u g no_named lu lg)))))
    where
      four : (a b c d : ℕ) → a ≡ 0 → b ≡ 0 → c ≡ 0 → a + (b + (c + d)) ≡ d
      four a b c d h k m = omega arith

-- ---- over the groups of a unit
module _ (i : Inputs) (l : Level) (t : Tree) (is : IsTreeOf i.schema l t) (curve : ℤ → ℕ) (u : ℕ) (y : Table) where
  abbrev s : Schema
  s = i.schema

  abbrev G : ℕ
  G = length t.groups

  abbrev sum_at : ℕ → ℕ
  sum_at g = group_sum t.groups y g

  abbrev AreClasses : Query → Type 0
  AreClasses q = (c : ℕ) → Contains (classes_of s q) c → (g : ℕ) × (g < length t.groups) × (group_at t.groups g ≡ class_cells s q c)

  -- each class counts at its own group alone
  at_own : (q : Query) (n c : ℕ) → AreClasses q → Contains (classes_of s q) c
      → below G (λ g. cond (bytes_eq (class_cells s q c) (group_at t.groups g)) (weight_of (common_of i.schema) q * curve (pos (sum_at g) -ℤ i.measured u n c)) 0)
      ≡ weight_of (common_of i.schema) q * curve (pos (sum_by y (class_cells s q c)) -ℤ i.measured u n c)
  at_own q n c are found =
      let own = are c found in
      let f : ℕ → ℕ = λ g. weight_of (common_of i.schema) q * curve (pos (sum_at g) -ℤ i.measured u n c) in
      below_same G _ (λ g. cond (eqb g own.0) (f g) 0) (λ g lg. elim (cases_Bool (bytes_eq (class_cells s q c) (group_at t.groups g))) [
        | inl same ↦
            let e : g ≡ own.0 = same_group t.groups is.groups g own.0 lg own.1 (sym ((bytes_eq-Decides (class_cells s q c) (group_at t.groups g)).0 same) ∙ sym own.2) in
            ap (λ b. cond b (f g) 0) (same ∙ sym (eq-eqb g own.0 e))
        | inr other ↦ ap (λ b. cond b (f g) 0) (other ∙ sym (ne_eqb g own.0 (λ e.
            let same = (bytes_eq-Decides (class_cells s q c) (group_at t.groups g)).1 (sym own.2 ∙ ap (group_at t.groups) (sym e)) in absurd cc)))
      ])
      ∙ below_one G own.0 f own.1
      ∙ ap (λ cells. weight_of (common_of i.schema) q * curve (pos (sum_by y cells) -ℤ i.measured u n c)) own.2

  query_value : (q : Query) (n g : ℕ) → terms_value curve (query_terms i u n q (group_at t.groups g)) (sum_at g)
      ≡ sum_by (λ c. cond (bytes_eq (class_cells s q c) (group_at t.groups g)) (weight_of (common_of i.schema) q * curve (pos (sum_at g) -ℤ i.measured u n c)) 0) (classes_of s q)
  query_value q n g =
      sum_map (term_value curve (sum_at g)) (λ c. record { weight = weight_of (common_of i.schema) q; target = i.measured u n c }) (filter (λ c. bytes_eq (class_cells s q c) (group_at t.groups g)) (classes_of s q))
      ∙ sum_filter (λ c. weight_of (common_of i.schema) q * curve (pos (sum_at g) -ℤ i.measured u n c)) (λ c. bytes_eq (class_cells s q c) (group_at t.groups g)) (classes_of s q)

  query_is : (q : Query) (n : ℕ) → AreClasses q → below G (λ g. terms_value curve (query_terms i u n q (group_at t.groups g)) (sum_at g)) ≡ query_deviation curve s (common_of i.schema) q (i.measured u n) y
  query_is q n are =
      let f : ℕ → ℕ → ℕ = λ g c. cond (bytes_eq (class_cells s q c) (group_at t.groups g)) (weight_of (common_of i.schema) q * curve (pos (sum_at g) -ℤ i.measured u n c)) 0 in
      below_same G _ (λ g. sum_by (f g) (classes_of s q)) (λ g lg. query_value q n g)
      ∙ sum_swap f (range_with_len 0 G) (classes_of s q)
      ∙ sum_same _ (λ c. weight_of (common_of i.schema) q * curve (pos (sum_by y (class_cells s q c)) -ℤ i.measured u n c)) (classes_of s q)
      (recursion_from_All _ (classes_of s q) (All-from_Contains _ (classes_of s q) (λ c found. at_own q n c are found)))

  queries_are : (n : ℕ) (qs : List Query) → Each AreClasses qs → below G (λ g. terms_value curve (terms_from i u n qs (group_at t.groups g)) (sum_at g)) ≡ deviation_from curve s (common_of i.schema) n qs (i.measured u) y
  queries_are n [] h = sum_zero (range_with_len 0 G)
  queries_are n (q ∷ qs) h =
      let f : ℕ → ℕ = λ g. terms_value curve (query_terms i u n q (group_at t.groups g)) (sum_at g) in
      let r : ℕ → ℕ = λ g. terms_value curve (terms_from i u (n + 1) qs (group_at t.groups g)) (sum_at g) in
      below_same G _ (λ g. f g + r g) (λ g lg. sum_append (term_value curve (sum_at g)) (query_terms i u n q (group_at t.groups g)) (terms_from i u (n + 1) qs (group_at t.groups g)))
      ∙ sum_add f r (range_with_len 0 G)
      ∙ both _ _ _ _ (query_is q n h.0) (queries_are (n + 1) qs h.1)
    where
      both : (a b c d : ℕ) → a ≡ b → c ≡ d → a + c ≡ b + d
      both a b c d h k = omega arith

  pub unit_value : below (length t.groups) (λ g. terms_value curve (terms_of i l u (group_at t.groups g)) (group_sum t.groups y g)) ≡ deviation curve i.schema (common_of i.schema) l (i.measured u) y
  unit_value = queries_are 0 l.queries (recursion_from_All AreClasses l.queries (λ k d below c found.
      placed t.groups (class_at t k c) (class_cells s (get_or l.queries k d) c) (is.each_class k c (get_or l.queries k d) (slice_get-get_or l.queries k d below) found)))

-- the level's deviation, where the unit's level is this one
pub level_value : (curve : ℤ → ℕ) (i : Inputs) (u level : ℕ) (y : Table) → level_of i.spine u ≡ level → level < length i.schema.levels
    → deviation_at curve i u y ≡ deviation curve i.schema (common_of i.schema) (level_at i.schema level) (i.measured u) y
level_value curve i u level y e low =
    let pick : Option Level → ℕ = λ o. elim o as (λ _. ℕ) [ Some l ↦ deviation curve i.schema (common_of i.schema) l (i.measured u) y | None ↦ 0 ] in
    ap (λ k. pick (slice_get i.schema.levels k)) e ∙ ap pick (slice_get-get_or i.schema.levels level (record { name = []; queries = [] }) low)

-- ---- a curve of whole numbers that are not negative
pub curve_same : (f : ℤ → ℤ) → ((d : ℤ) → pos 0 ≤ℤ f d) → (net : Network) (flow : List ℕ) → cost f net flow ≡ cost (net_curve (λ d. nat_abs (f d))) net flow
unfolding cost arc_cost
curve_same f low net flow =
    sum_below-ext (arc_count net) _ _ (λ k lk. sum_below-ext (length (terms_at net k)) _ _ (λ j lj.
    ap (λ z. pos (term_at (terms_at net k) j).weight *ℤ z) (same (f (pos (slice_index flow k) -ℤ (term_at (terms_at net k) j).target)) (low (pos (slice_index flow k) -ℤ (term_at (terms_at net k) j).target)))))
  where
    same : (z : ℤ) → pos 0 ≤ℤ z → z ≡ pos (nat_abs z)
    same z h = omega (arith, ints)
