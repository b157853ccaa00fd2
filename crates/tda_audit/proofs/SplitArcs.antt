-- The arcs of a split: said over groups, and as they stand in the network.
use Rattle.std.proofs.Common.{◌≡◌, ℕ, ◌+◌, ◌<◌, ◌≤◌, ◌==◌, cond, true, false, List, length, slice_index, ℤ, pos, ◌∷◌, Some, refl, sym, ap, ◌∙◌, subst, arith, inl, inr, ne_eqb, eq-eqb}
use Rattle.std.proofs.lemmas.Bool.{cases_eq}
use Rattle.tda_model.specs.Schema.{Schema}
use Rattle.tda_model.specs.Cells.{possible_cells}
use Rattle.tda_model.specs.Sizes.{groups_at}
use Rattle.tda_model.specs.Spine.{level_of, nation_of, children_of, IsUnit, HasParent, IsTree}
use Rattle.tda_model.specs.Tables.{Tables}
use Rattle.tda_model.specs.Release.{Inputs}
use Rattle.tda_model.proofs.Sums.{Each}
use Rattle.tda_schema.specs.Stated.{level_at}
use Rattle.tda_loss.specs.declared.Curve.{Curve}
use Rattle.tda_loss.specs.Curve.{value_of}
use Rattle.tda_flow.specs.Flow.{arc_cost}
use Rattle.tda_flow.specs.Certificate.{price_at, IsCertified}
use Rattle.tda_groups.specs.Order.{group_at}
use Rattle.tda_groups.specs.Tree.{Tree, IsTreeOf}
use Rattle.tda_fitnet.specs.declared.name.ArcName.{ArcName}
use Rattle.tda_fitnet.specs.declared.name.ArcName.TheVariants.{Give, Group}
use Rattle.tda_fitnet.specs.declared.layout.Layout.{Layout}
use Rattle.tda_fitnet.specs.Layout.{source_node, group_node, give_place, group_place}
use Rattle.tda_groups.specs.Chains.{smallest_of, next_of}
use Rattle.tda_fitnet.specs.Terms.{terms_of, group_low, group_high}
use Rattle.tda_fitnet.specs.Arcs.{NamedArc, cell_at, child_at, split_layout, split_network, source_arc, share_arc, give_arc, group_arc, group_end}
use Rattle.tda_fitnet.specs.Fits.{group_sum, split_flow}
use Rattle.tda_fitnet.proofs.Ranges.{at_source, at_give, at_group}
use Rattle.tda_fitnet.proofs.GroupSums.{next_less, smallest_less}
use Rattle.tda_fitnet.proofs.SplitFit.{cell_in, cell_can, is_cell}
use Rattle.tda_prices.specs.Items.{OfGroup, Pricing, prices_of}
use Rattle.tda_audit.specs.Arcs.{PricedArc, IsSettled, arc_of, next_price}
use Rattle.tda_audit.specs.Certified.{IsUnitSettled}
use Rattle.tda_audit.proofs.Settled.{IsLike, like_back, settled_like, no_cost, priced, AreSettled, settled_certified, certified_settled}
use Rattle.tda_audit.proofs.Lookups.{split_source, split_group}
use Rattle.tda_audit.proofs.Children.{child_is}
use Rattle.tda_audit.proofs.RootArcs.{gap_same}

module _ (c : Curve) (i : Inputs) (groups : ℕ → List (List ℕ)) (x : Tables) (price : Pricing) (tree : IsTree i.spine (nation_of i.spine))
    (p : ℕ) (t : Tree) (is : IsTreeOf i.schema (level_at i.schema (level_of i.spine p + 1)) t)
    (same : groups (level_of i.spine p + 1) ≡ t.groups)
    (counts : Each (λ v. groups_at i.schema (level_of i.spine v) ≡ length t.groups) (children_of i.spine p)) where
  abbrev s : Schema
  s = i.schema

  abbrev G : List (List ℕ)
  G = t.groups

  abbrev L : Layout
  L = split_layout i t.groups p

  abbrev child : ℕ → ℕ
  child u = child_at i p u

  abbrev prices : List ℤ
  prices = pos 0 ∷ prices_of i.schema i.spine price (Some p)

  abbrev flow : List ℕ
  flow = split_flow i t.groups p (x p) x

  abbrev source : ℕ → NamedArc
  source r = source_arc r (x p (cell_at i r))

  abbrev share : ℕ → ℕ → NamedArc
  share n k = share_arc i L n n k

  abbrev give : ℕ → ℕ → NamedArc
  give u r = give_arc L G (source_node r) u (child u) (cell_at i r)

  abbrev group : ℕ → ℕ → NamedArc
  group u g = group_arc i L G (level_at s (level_of i.spine p + 1)) u (child u) g (group_low i (child u) g (group_at G g)) (group_high i (child u) g (group_at G g))

  abbrev arc : ArcName → PricedArc
  arc a = arc_of c i groups x price (Some p) a

  small_in : (j : ℕ) → smallest_of G j < length G
  small_in j = smallest_less G is.groups (possible_cells s) is.whole j

  next_in : (g : ℕ) → 1 ≤ g → g < length G → next_of G g < length G
  next_in g some l = let d = next_less G is.groups (possible_cells s) is.whole g some in omega arith

  child_level : (u : ℕ) → u < L.units → level_of i.spine (child u) ≡ level_of i.spine p + 1
  child_level u lu = (child_is i.spine tree p u lu).up.above

  child_groups : (u : ℕ) → u < L.units → groups (level_of i.spine (child u)) ≡ t.groups
  child_groups u lu = ap groups (child_level u lu) ∙ same

  give_like : (u r : ℕ) → u < L.units → r < L.cells → IsLike (arc (Give (child u) (cell_at i r))) (priced (value_of c) (give u r) (slice_index flow (give_place L u r)) prices)
  give_like u r lu lr =
      let j = cell_at i r in record {
        cost = λ m. sym (no_cost (value_of c) m);
        low = refl;
        high = refl;
        flow = sym (at_give L (λ r. x p (cell_at i r)) (λ n k. 0) (λ u r. x (child u) (cell_at i r)) (λ u g. group_sum G (x (child u)) g) u r 0 lu lr);
        rise = gap_same _ _ _ _
            (ap (λ gs. price (Some p) (OfGroup (child u) (smallest_of gs j))) (child_groups u lu) ∙ sym (split_group i price p t counts u (smallest_of G j) lu (small_in j)))
            (sym (split_source i price p t counts r lr));
      }

  end_like : (u g : ℕ) → u < L.units → g < length G → next_price c i groups x price (Some p) (child u) g ≡ price_at prices (group_end L G u g)
  end_like u g lu lg = elim (cases_eq g 0) [
    | inl e ↦
        let b : (g == 0) ≡ true = eq-eqb g 0 e in
        ap (λ b. cond b (pos 0) (price (Some p) (OfGroup (child u) (next_of (groups (level_of i.spine (child u))) g)))) b
        ∙ sym (ap (λ b. price_at prices (cond b 0 (group_node L u (next_of G g)))) b)
    | inr ne ↦
        let b : (g == 0) ≡ false = ne_eqb g 0 ne in
        ap (λ b. cond b (pos 0) (price (Some p) (OfGroup (child u) (next_of (groups (level_of i.spine (child u))) g)))) b
        ∙ ap (λ gs. price (Some p) (OfGroup (child u) (next_of gs g))) (child_groups u lu)
        ∙ sym (split_group i price p t counts u (next_of G g) lu (next_in g (omega arith) lg))
        ∙ sym (ap (λ b. price_at prices (cond b 0 (group_node L u (next_of G g)))) b)
  ]

  group_like : (u g : ℕ) → u < L.units → g < L.groups → IsLike (arc (Group (child u) g)) (priced (value_of c) (group u g) (slice_index flow (group_place L u g)) prices)
  group_like u g lu lg = record {
    cost = λ m. ap (λ gs. arc_cost (value_of c) (terms_of i (level_at s (level_of i.spine (child u))) (child u) (group_at gs g)) m) (child_groups u lu)
        ∙ ap (λ l. arc_cost (value_of c) (terms_of i (level_at s l) (child u) (group_at G g)) m) (child_level u lu);
    low = ap (λ gs. group_low i (child u) g (group_at gs g)) (child_groups u lu);
    high = ap (λ gs. group_high i (child u) g (group_at gs g)) (child_groups u lu);
    flow = ap (λ gs. group_sum gs (x (child u)) g) (child_groups u lu)
        ∙ sym (at_group L (λ r. x p (cell_at i r)) (λ n k. 0) (λ u r. x (child u) (cell_at i r)) (λ u g. group_sum G (x (child u)) g) u g 0 lu lg);
    rise = gap_same _ _ _ _ (end_like u g lu lg) (sym (split_group i price p t counts u g lu lg));
  }

  abbrev Settles : Type 0
  Settles = AreSettled (value_of c) L source share give group flow prices

  fixed : (r : ℕ) → r < L.sources → ((source r).arc.low ≡ slice_index flow r) × ((source r).arc.high ≡ slice_index flow r)
  fixed r lr =
      let e = sym (at_source L (λ r. x p (cell_at i r)) (λ n k. 0) (λ u r. x (child u) (cell_at i r)) (λ u g. group_sum G (x (child u)) g) r 0 lr) in (e, e)

  abbrev pub ChildSettled : ℕ → Type 0
  ChildSettled v = IsUnitSettled c i groups x price (Some p) v

  -- settled arcs certify the network
  pub split_certified : ((u : ℕ) → IsUnit i.spine u → HasParent i.spine u p → IsUnitSettled c i groups x price (Some p) u)
      → IsCertified (value_of c) (split_network i t.groups p (x p)) (split_flow i t.groups p (x p) x) (pos 0 ∷ prices_of i.schema i.spine price (Some p))
  split_certified each =
      let at : (u : ℕ) → u < L.units → ChildSettled (child u) = λ u lu. let k = child_is i.spine tree p u lu in each (child u) k.here k.up in
      settled_certified (value_of c) L source share give group flow prices fixed (record {
        shares = λ n k ln lk. absurd (omega arith);
        gives = λ u r lu lr. settled_like (arc (Give (child u) (cell_at i r))) _ (give_like u r lu lr) ((at u lu).each_cell (cell_at i r) (cell_in i r lr) (cell_can i r lr));
        groups = λ u g lu lg. settled_like (arc (Group (child u) g)) _ (group_like u g lu lg) ((at u lu).each_group g (subst (λ gs. g < length gs) (sym (child_groups u lu)) lg));
      })

  -- and a certified network has settled arcs
  pub split_settled : IsCertified (value_of c) (split_network i t.groups p (x p)) (split_flow i t.groups p (x p) x) (pos 0 ∷ prices_of i.schema i.spine price (Some p))
      → (u : ℕ) → u < length (children_of i.spine p) → IsUnitSettled c i groups x price (Some p) (child_at i p u)
  split_settled certified u lu =
      let h : Settles = certified_settled (value_of c) L source share give group flow prices certified in record {
        each_cell = λ j lj can.
            let r = is_cell i j lj can in
            subst (λ j. IsSettled (arc (Give (child u) j))) r.is
            (settled_like _ (arc (Give (child u) (cell_at i r.rank))) (like_back (arc (Give (child u) (cell_at i r.rank))) _ (give_like u r.rank lu r.low)) (h.gives u r.rank lu r.low));
        each_group = λ g l.
            let lg : g < length G = subst (λ gs. g < length gs) (child_groups u lu) l in
            settled_like _ (arc (Group (child u) g)) (like_back (arc (Group (child u) g)) _ (group_like u g lu lg)) (h.groups u g lu lg);
      }
