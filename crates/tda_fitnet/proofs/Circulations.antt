-- A flow over a fit's arcs circulates exactly where it keeps the bounds and balances at sources, kinds and groups. The hub balances by itself.
use Rattle.std.proofs.Common.{◌≡◌, ℕ, zero, suc, ◌+◌, ◌-◌, ◌<◌, ◌≤◌, cond, ◌&&◌, eqb, nat_lt, List, length, slice_index, ℤ, pos, ◌-ℤ◌, ◌*ℤ◌, sym, ap, ◌∙◌, subst, inl, inr, arith}
use Rattle.std.proofs.lemmas.Int.{ints}
use Rattle.std.proofs.lemmas.Bool.{cases_eq, cases_lt}
use Rattle.tda_model.specs.Bounds.{persons_limit}
use Rattle.tda_flow.specs.declared.net.Arc.{Arc}
use Rattle.tda_flow.specs.declared.net.Term.{Term}
use Rattle.tda_flow.specs.Sum.{sum_below}
use Rattle.tda_flow.specs.Network.{Network, arc_count, arc_at, IsSound}
use Rattle.tda_flow.specs.Flow.{into, out_of, IsCirculation}
use Rattle.tda_flow.proofs.Sums.{sum_below-ext, sum_below-zero}
use Rattle.tda_flow.proofs.Exchange.{exchange, excess}
use Rattle.tda_fitnet.specs.declared.name.ArcName.{ArcName}
use Rattle.tda_fitnet.specs.declared.layout.Layout.{Layout}
use Rattle.tda_fitnet.specs.Layout.{layout_list, arc_number, node_number, source_node, kind_node, group_node, share_place, give_place, group_place}
use Rattle.tda_fitnet.specs.Arcs.{NamedArc, network_of, plain_arc, source_arc}
use Rattle.tda_fitnet.proofs.Ranges.{below, place_below}
use Rattle.tda_fitnet.proofs.Places.{each_place, split_place, count_is, source_is, share_is, give_is, group_is, into_is, out_is}
use Rattle.tda_fitnet.proofs.Nodes.{comes_in, goes_out, in_source, out_source, in_kind, out_kind, in_group, out_group}

sum_first : (n : ℕ) (f : ℕ → ℤ) → ((v : ℕ) → 1 ≤ v → v < suc n → f v ≡ pos 0) → sum_below (suc n) f ≡ f 0
unfolding sum_below
sum_first zero f h = omega (arith, ints)
sum_first (suc n) f h = omega (arith, ints, sum_first n f (λ v a b. h v a (omega arith)), h (suc n) (omega arith) (omega arith))

times_one : (z : ℤ) → pos 1 *ℤ z ≡ z
times_one z = omega (arith, ints)

times_none : (z : ℤ) → (pos 1 -ℤ pos 1) *ℤ z ≡ pos 0
times_none z = omega (arith, ints)

apart_none : (a b : ℤ) → a ≡ b → a -ℤ b ≡ pos 0
apart_none a b e = omega (arith, ints)

same_from : (a b : ℤ) → a -ℤ b ≡ pos 0 → a ≡ b
same_from a b e = omega (arith, ints)

-- where each node but the hub balances, the hub does
pub hub_balances : (net : Network) (flow : List ℕ) → IsSound net → ((v : ℕ) → 1 ≤ v → v < net.nodes → into net flow v ≡ out_of net flow v) → into net flow 0 ≡ out_of net flow 0
hub_balances net flow sound h =
    let some : 1 ≤ net.nodes = sound.some_node in
    let e : suc (net.nodes - 1) ≡ net.nodes = omega arith in
    let f : ℕ → ℤ = λ v. pos 1 *ℤ excess net flow v in
    let total : sum_below net.nodes f ≡ pos 0 = exchange net flow (λ v. pos 1) sound ∙ sum_below-ext (arc_count net) _ (λ k. pos 0) (λ k l. times_none (pos (slice_index flow k))) ∙ sum_below-zero (arc_count net) in
    let first : sum_below (suc (net.nodes - 1)) f ≡ f 0 = sum_first (net.nodes - 1) f (λ v a b. times_one (excess net flow v) ∙ apart_none (into net flow v) (out_of net flow v) (h v a (omega arith))) in
    same_from (into net flow 0) (out_of net flow 0) (sym (times_one (excess net flow 0)) ∙ sym first ∙ ap (λ n. sum_below n f) e ∙ total)

pub circulates : (net : Network) (flow : List ℕ) → IsSound net → length flow ≡ arc_count net
    → ((k : ℕ) → k < arc_count net → ((arc_at net k).low ≤ slice_index flow k) × (slice_index flow k ≤ (arc_at net k).high))
    → ((v : ℕ) → 1 ≤ v → v < net.nodes → into net flow v ≡ out_of net flow v) → IsCirculation net flow
circulates net flow sound count within h = record {
  count = count;
  within = within;
  balanced = λ v l. elim (cases_eq v 0) [
    | inl e ↦ ap (into net flow) e ∙ hub_balances net flow sound h ∙ ap (out_of net flow) (sym e)
    | inr ne ↦ h v (omega arith) l
  ];
}

pos_same : (a b : ℕ) → pos a ≡ pos b → a ≡ b
pos_same a b e = omega (arith, ints)

module _ (l : Layout) (some_sources : l.states ≤ l.sources) (from : ℕ → ℕ) (small next : ℕ → ℕ)
    (from_low : (r : ℕ) → r < l.cells → 1 ≤ from r) (from_high : (r : ℕ) → r < l.cells → from r < 1 + l.sources + l.kinds)
    (small_in : (r : ℕ) → r < l.cells → small r < l.groups) (down : (g : ℕ) → 1 ≤ g → g < l.groups → next g < g)
    (amount : ℕ → ℕ) (share_low share_high group_low group_high : ℕ → ℕ → ℕ)
    (share_name give_name group_name : ℕ → ℕ → ArcName) (terms : ℕ → ℕ → List Term) where
  abbrev pub source : ℕ → NamedArc
  source n = source_arc n (amount n)

  abbrev pub share : ℕ → ℕ → NamedArc
  share n k = plain_arc (share_name n k) (source_node n) (kind_node l k) (share_low n k) (share_high n k)

  abbrev pub give : ℕ → ℕ → NamedArc
  give u r = plain_arc (give_name u r) (from r) (group_node l u (small r)) 0 persons_limit

  abbrev pub group : ℕ → ℕ → NamedArc
  group u g = record {
    name = group_name u g;
    arc = record { from = group_node l u g; to = cond (eqb g 0) 0 (group_node l u (next g)); low = group_low u g; high = group_high u g };
    terms = terms u g;
  }

  abbrev pub net : Network
  net = network_of l (layout_list l source share give group)

  module _ (flow : List ℕ) where
    abbrev at_share : ℕ → ℕ → ℕ
    at_share n k = slice_index flow (share_place l n k)

    abbrev at_give : ℕ → ℕ → ℕ
    at_give u r = slice_index flow (give_place l u r)

    abbrev at_group : ℕ → ℕ → ℕ
    at_group u g = slice_index flow (group_place l u g)

    pub record Balances : Type 0 where
      pub count : length flow ≡ arc_number l
      pub sources : (n : ℕ) → n < l.sources → slice_index flow n ≡ amount n
      pub shares : (n k : ℕ) → n < l.states → k < l.kinds → (share_low n k ≤ at_share n k) × (at_share n k ≤ share_high n k)
      pub gives : (u r : ℕ) → u < l.units → r < l.cells → at_give u r ≤ persons_limit
      pub groups : (u g : ℕ) → u < l.units → g < l.groups → (group_low u g ≤ at_group u g) × (at_group u g ≤ group_high u g)
      pub at_sources : (n : ℕ) → n < l.sources
          → amount n ≡ below l.states (λ m. below l.kinds (λ k. cond (eqb (source_node m) (source_node n)) (at_share m k) 0))
          + below l.units (λ u. below l.cells (λ r. cond (eqb (from r) (source_node n)) (at_give u r) 0))
      pub at_kinds : (k : ℕ) → k < l.kinds
          → below l.states (λ n. at_share n k) ≡ below l.units (λ u. below l.cells (λ r. cond (eqb (from r) (kind_node l k)) (at_give u r) 0))
      pub at_groups : (u g : ℕ) → u < l.units → g < l.groups
          → below l.cells (λ r. cond (eqb (small r) g) (at_give u r) 0) + below l.groups (λ h. cond (nat_lt 0 h && eqb (next h) g) (at_group u h) 0) ≡ at_group u g

    ins : ℕ → ℕ
    ins v = comes_in l some_sources from small next from_low from_high small_in down (slice_index flow) at_share at_give at_group v

    outs : ℕ → ℕ
    outs v = goes_out l some_sources from small next from_low from_high small_in down (slice_index flow) at_share at_give at_group v

    into_ins : (v : ℕ) → into net flow v ≡ pos (ins v)
    unfolding ins
    into_ins v = into_is l source share give group flow v

    out_outs : (v : ℕ) → out_of net flow v ≡ pos (outs v)
    unfolding outs
    out_outs v = out_is l source share give group flow v

    node_place : (P : ℕ → Type 0) → ((n : ℕ) → n < l.sources → P (source_node n)) → ((k : ℕ) → k < l.kinds → P (kind_node l k))
        → ((u g : ℕ) → u < l.units → g < l.groups → P (group_node l u g)) → (v : ℕ) → 1 ≤ v → v < node_number l → P v
    node_place P at_source at_kind at_grp v some low =
        elim (cases_lt v (1 + l.sources)) [
          | inl first ↦ let e : source_node (v - 1) ≡ v = omega arith in subst P e (at_source (v - 1) (omega arith))
          | inr past ↦ elim (cases_lt v (1 + l.sources + l.kinds)) [
            | inl second ↦ let e : kind_node l (v - (1 + l.sources)) ≡ v = omega arith in subst P e (at_kind (v - (1 + l.sources)) (omega arith))
            | inr past2 ↦
                let h = split_place l.units l.groups (v - (1 + l.sources + l.kinds)) (omega arith) in
                let e : group_node l h.0 h.1 ≡ v = omega (arith, h.4) in subst P e (at_grp h.0 h.1 h.2 h.3)
          ]
        ]

    pub balances_circulates : IsSound net → Balances → IsCirculation net flow
    unfolding ins outs
    balances_circulates sound b =
        circulates net flow sound (b.count ∙ sym (count_is l source share give group flow))
        (λ k low. each_place l (λ k. ((arc_at net k).low ≤ slice_index flow k) × (slice_index flow k ≤ (arc_at net k).high))
        (λ n ln. subst (λ a. (a.low ≤ slice_index flow n) × (slice_index flow n ≤ a.high)) (sym (source_is l source share give group flow n ln))
        (let e = b.sources n ln in (omega arith, omega arith)))
        (λ n k ln lk. subst (λ a. (a.low ≤ at_share n k) × (at_share n k ≤ a.high)) (sym (share_is l source share give group flow n k ln lk)) (b.shares n k ln lk))
        (λ u r lu lr. subst (λ a. (a.low ≤ at_give u r) × (at_give u r ≤ a.high)) (sym (give_is l source share give group flow u r lu lr)) (omega arith, b.gives u r lu lr))
        (λ u g lu lg. subst (λ a. (a.low ≤ at_group u g) × (at_group u g ≤ a.high)) (sym (group_is l source share give group flow u g lu lg)) (b.groups u g lu lg))
        k (omega (arith, count_is l source share give group flow)))
        (λ v some low. into_ins v ∙ ap pos (node_place (λ v. ins v ≡ outs v)
        (λ n ln. in_source l some_sources from small next from_low from_high small_in down (slice_index flow) at_share at_give at_group n ln
        ∙ b.sources n ln ∙ b.at_sources n ln
        ∙ sym (out_source l some_sources from small next from_low from_high small_in down (slice_index flow) at_share at_give at_group n ln))
        (λ k lk. in_kind l some_sources from small next from_low from_high small_in down (slice_index flow) at_share at_give at_group k lk
        ∙ b.at_kinds k lk
        ∙ sym (out_kind l some_sources from small next from_low from_high small_in down (slice_index flow) at_share at_give at_group k lk))
        (λ u g lu lg. in_group l some_sources from small next from_low from_high small_in down (slice_index flow) at_share at_give at_group u g lu lg
        ∙ b.at_groups u g lu lg
        ∙ sym (out_group l some_sources from small next from_low from_high small_in down (slice_index flow) at_share at_give at_group u g lu lg))
        v some low) ∙ sym (out_outs v))

    balance_at : IsCirculation net flow → (v : ℕ) → v < node_number l → ins v ≡ outs v
    balance_at c v low = pos_same (ins v) (outs v) (sym (into_ins v) ∙ c.balanced v low ∙ out_outs v)

    within_at : IsCirculation net flow → (k : ℕ) (a : Arc) → k < arc_number l → arc_at net k ≡ a → (a.low ≤ slice_index flow k) × (slice_index flow k ≤ a.high)
    within_at c k a low e = subst (λ b. (b.low ≤ slice_index flow k) × (slice_index flow k ≤ b.high)) e (c.within k (omega (arith, count_is l source share give group flow)))

    pub circulation_balances : IsCirculation net flow → Balances
    unfolding ins outs
    circulation_balances c =
        let exact : (n : ℕ) → n < l.sources → slice_index flow n ≡ amount n = λ n ln.
        let w = within_at c n (source n).arc (omega arith) (source_is l source share give group flow n ln) in omega (arith, w.0, w.1) in
        record {
          count = c.count ∙ count_is l source share give group flow;
          sources = exact;
          shares = λ n k ln lk. within_at c (share_place l n k) (share n k).arc (let b = place_below l.states l.kinds n k ln lk in omega arith) (share_is l source share give group flow n k ln lk);
          gives = λ u r lu lr. (within_at c (give_place l u r) (give u r).arc (let b = place_below l.units l.cells u r lu lr in omega arith) (give_is l source share give group flow u r lu lr)).1;
          groups = λ u g lu lg. within_at c (group_place l u g) (group u g).arc (let b = place_below l.units l.groups u g lu lg in omega arith) (group_is l source share give group flow u g lu lg);
          at_sources = λ n ln.
              sym (exact n ln)
              ∙ sym (in_source l some_sources from small next from_low from_high small_in down (slice_index flow) at_share at_give at_group n ln)
              ∙ balance_at c (source_node n) (omega arith)
              ∙ out_source l some_sources from small next from_low from_high small_in down (slice_index flow) at_share at_give at_group n ln;
          at_kinds = λ k lk.
              sym (in_kind l some_sources from small next from_low from_high small_in down (slice_index flow) at_share at_give at_group k lk)
              ∙ balance_at c (kind_node l k) (omega arith)
              ∙ out_kind l some_sources from small next from_low from_high small_in down (slice_index flow) at_share at_give at_group k lk;
          at_groups = λ u g lu lg.
              sym (in_group l some_sources from small next from_low from_high small_in down (slice_index flow) at_share at_give at_group u g lu lg)
              ∙ balance_at c (group_node l u g) (let b = place_below l.units l.groups u g lu lg in omega arith)
              ∙ out_group l some_sources from small next from_low from_high small_in down (slice_index flow) at_share at_give at_group u g lu lg;
        }
