-- The networks of fits are grouped, and what comes to a group is what its own cells are given and what the groups before it pass on.
use Rattle.std.proofs.Common.{◌≡◌, ℕ, ◌+◌, ◌<◌, ◌≤◌, Bool, true, false, cond, ◌&&◌, ◌==◌, eqb, nat_lt, List, slice_index, pos, refl, sym, ap, ◌∙◌, inl, inr, arith, ne_eqb, eq-eqb}
use Rattle.std.proofs.lemmas.Bool.{cases_eq}
use Rattle.std.proofs.lemmas.Int.{ints}
use Rattle.tda_model.specs.Bounds.{persons_limit}
use Rattle.tda_flow.specs.declared.net.Term.{Term}
use Rattle.tda_flow.specs.Network.{Network, arc_count}
use Rattle.tda_flow.specs.Flow.{into}
use Rattle.tda_flow.proofs.Sums.{sum_below-ext}
use Rattle.tda_fitnet.specs.declared.layout.Layout.{Layout}
use Rattle.tda_fitnet.specs.declared.name.ArcName.{ArcName}
use Rattle.tda_fitnet.specs.Layout.{layout_list, arc_number, source_node, kind_node, share_place, give_place, group_place, group_node}
use Rattle.tda_fitnet.specs.Arcs.{NamedArc, network_of, plain_arc, source_arc}
use Rattle.tda_fitnet.specs.GroupFlows.{first_give, first_group, first_node, end_of, arc_after, coming, IsGrouped}
use Rattle.tda_fitnet.proofs.Ranges.{below, place_below}
use Rattle.tda_fitnet.proofs.Places.{each_place, count_is, source_is, share_is, give_is, group_is, into_is, pos_below}
use Rattle.tda_fitnet.proofs.Nodes.{in_group}

pos_same : (a b : ℕ) → pos a ≡ pos b → a ≡ b
pos_same a b e = omega (arith, ints)

pos_cond : (b : Bool) (x : ℕ) → cond b (pos x) (pos 0) ≡ pos (cond b x 0)
pos_cond true x = refl
pos_cond false x = refl

module _ (l : Layout) (some_sources : l.states ≤ l.sources) (from : ℕ → ℕ) (small next : ℕ → ℕ)
    (from_low : (r : ℕ) → r < l.cells → 1 ≤ from r) (from_high : (r : ℕ) → r < l.cells → from r < 1 + l.sources + l.kinds)
    (small_in : (r : ℕ) → r < l.cells → small r < l.groups) (down : (g : ℕ) → 1 ≤ g → g < l.groups → next g < g)
    (amount : ℕ → ℕ) (share_low share_high group_low group_high : ℕ → ℕ → ℕ)
    (share_name give_name group_name : ℕ → ℕ → ArcName) (terms : ℕ → ℕ → List Term) (flow : List ℕ) where
  abbrev source : ℕ → NamedArc
  source n = source_arc n (amount n)

  abbrev share : ℕ → ℕ → NamedArc
  share n k = plain_arc (share_name n k) (source_node n) (kind_node l k) (share_low n k) (share_high n k)

  abbrev give : ℕ → ℕ → NamedArc
  give u r = plain_arc (give_name u r) (from r) (group_node l u (small r)) 0 persons_limit

  abbrev group : ℕ → ℕ → NamedArc
  group u g = record {
    name = group_name u g;
    arc = record { from = group_node l u g; to = cond (eqb g 0) 0 (group_node l u (next g)); low = group_low u g; high = group_high u g };
    terms = terms u g;
  }

  abbrev net : Network
  net = network_of l (layout_list l source share give group)

  abbrev at_give : ℕ → ℕ → ℕ
  at_give u r = slice_index flow (give_place l u r)

  abbrev at_group : ℕ → ℕ → ℕ
  at_group u g = slice_index flow (group_place l u g)

  into_coming : (v : ℕ) → into net flow v ≡ pos (coming net flow v)
  unfolding into
  into_coming v =
      let f : ℕ → ℕ = λ k. cond (end_of net k == v) (slice_index flow k) 0 in
      sum_below-ext (arc_count net) _ (λ k. pos (f k)) (λ k low. pos_cond (end_of net k == v) (slice_index flow k)) ∙ pos_below (arc_count net) f

  -- what comes to a group
  pub comes_to_group : (u g : ℕ) → u < l.units → g < l.groups
      → coming net flow (group_node l u g)
      ≡ below l.cells (λ r. cond (eqb (small r) g) (at_give u r) 0) + below l.groups (λ h. cond (nat_lt 0 h && eqb (next h) g) (at_group u h) 0)
  comes_to_group u g lu lg =
      pos_same _ _ (sym (into_coming (group_node l u g)) ∙ into_is l source share give group flow (group_node l u g))
      ∙ in_group l some_sources from small next from_low from_high small_in down (slice_index flow) (λ n k. slice_index flow (share_place l n k)) at_give at_group u g lu lg

  record IsPlaced (k : ℕ) : Type 0 where
    pub early : k < first_give l → end_of net k < first_node l
    pub gives : first_give l ≤ k → k < first_group l → (first_node l ≤ end_of net k) × (arc_after net (first_group l) (first_node l) k < arc_number l)
    pub groups : first_group l ≤ k → 1 ≤ end_of net k → (first_node l ≤ end_of net k) × (arc_after net (first_group l) (first_node l) k < k)

  placed : (k : ℕ) → k < arc_number l → IsPlaced k
  placed = each_place l IsPlaced
      (λ n ln. let e : end_of net n ≡ source_node n = ap (λ a. a.to) (source_is l source share give group flow n ln) in record {
        early = λ low. omega (arith, e);
        gives = λ from till. absurd (omega arith);
        groups = λ from some. absurd (omega arith);
      })
      (λ n k ln lk.
      let e : end_of net (share_place l n k) ≡ kind_node l k = ap (λ a. a.to) (share_is l source share give group flow n k ln lk) in
      let b = place_below l.states l.kinds n k ln lk in record {
        early = λ low. omega (arith, e);
        gives = λ from till. absurd (omega arith);
        groups = λ from some. absurd (omega arith);
      })
      (λ u r lu lr.
      let e : end_of net (give_place l u r) ≡ group_node l u (small r) = ap (λ a. a.to) (give_is l source share give group flow u r lu lr) in
      let b = place_below l.units l.cells u r lu lr in
      let c = place_below l.units l.groups u (small r) lu (small_in r lr) in record {
        early = λ low. absurd (omega arith);
        gives = λ low high. (omega (arith, e), omega (arith, e));
        groups = λ a some. absurd (omega arith);
      })
      (λ u g lu lg.
      let e : end_of net (group_place l u g) ≡ cond (eqb g 0) 0 (group_node l u (next g)) = ap (λ a. a.to) (group_is l source share give group flow u g lu lg) in
      record {
        early = λ low. absurd (omega arith);
        gives = λ low high. absurd (omega arith);
        groups = λ a some. elim (cases_eq g 0) [
          | inl z ↦ let d : end_of net (group_place l u g) ≡ 0 = e ∙ ap (λ b. cond b 0 (group_node l u (next g))) (eq-eqb g 0 z) in absurd (omega arith)
          | inr ne ↦
              let d : end_of net (group_place l u g) ≡ group_node l u (next g) = e ∙ ap (λ b. cond b 0 (group_node l u (next g))) (ne_eqb g 0 ne) in
              let lt = down g (omega arith) lg in (omega (arith, d), omega (arith, d))
        ];
      })

  count : arc_count net ≡ arc_number l
  count = count_is l source share give group flow

  pub grouped : IsGrouped net (first_give l) (first_group l) (first_node l)
  grouped = record {
    some = omega arith;
    order = omega arith;
    within = omega (arith, count);
    early = λ k low. (placed k (omega arith)).early low;
    gives = λ k low high. let h = (placed k (omega arith)).gives low high in (h.0, omega (arith, h.1, count));
    groups = λ k low high some. (placed k (omega (arith, count))).groups low some;
  }
