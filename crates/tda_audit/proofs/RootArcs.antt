-- The root fit's arcs: said over groups, and as they stand in the network.
use Rattle.std.proofs.Common.{◌≡◌, ℕ, ◌<◌, ◌≤◌, ◌==◌, cond, true, false, List, length, slice_index, ℤ, pos, ◌∷◌, ◌-ℤ◌, None, refl, sym, ap, ◌∙◌, subst, arith, inl, inr, ne_eqb, eq-eqb}
use Rattle.std.proofs.lemmas.Int.{ints}
use Rattle.std.proofs.lemmas.Bool.{cases_eq}
use Rattle.tda_model.specs.Schema.{Schema}
use Rattle.tda_model.specs.Cells.{kind_of, possible_cells}
use Rattle.tda_model.specs.Groups.{kind_count}
use Rattle.tda_model.specs.Sizes.{groups_at}
use Rattle.tda_model.specs.Spine.{level_of, nation_of}
use Rattle.tda_model.specs.Tables.{Tables, kind_sum}
use Rattle.tda_model.specs.Bounds.{persons_limit, HasKinds}
use Rattle.tda_model.specs.Release.{Inputs}
use Rattle.tda_model.proofs.Attain.{kind_lt}
use Rattle.tda_schema.specs.Stated.{level_at}
use Rattle.tda_loss.specs.declared.Curve.{Curve}
use Rattle.tda_loss.specs.Curve.{value_of}
use Rattle.tda_flow.specs.Flow.{arc_cost}
use Rattle.tda_flow.specs.Certificate.{price_at, IsCertified}
use Rattle.tda_groups.specs.Order.{group_at}
use Rattle.tda_groups.specs.Tree.{Tree, IsTreeOf}
use Rattle.tda_fitnet.specs.declared.name.ArcName.{ArcName}
use Rattle.tda_fitnet.specs.declared.name.ArcName.TheVariants.{Share, Give, Group}
use Rattle.tda_fitnet.specs.declared.layout.Layout.{Layout}
use Rattle.tda_fitnet.specs.Layout.{kind_node, group_node, share_place, give_place, group_place}
use Rattle.tda_groups.specs.Chains.{smallest_of, next_of}
use Rattle.tda_fitnet.specs.Terms.{terms_of}
use Rattle.tda_fitnet.specs.Arcs.{NamedArc, states, state_at, cell_at, root_layout, root_network, source_arc, share_arc, give_arc, group_arc, group_end}
use Rattle.tda_fitnet.specs.Fits.{group_sum, root_flow}
use Rattle.tda_fitnet.proofs.Ranges.{at_source, at_share, at_give, at_group}
use Rattle.tda_fitnet.proofs.GroupSums.{next_less, smallest_less}
use Rattle.tda_fitnet.proofs.SplitFit.{cell_in, cell_can, is_cell}
use Rattle.tda_prices.specs.Items.{OfGroup, Pricing, prices_of}
use Rattle.tda_audit.specs.Arcs.{PricedArc, IsSettled, arc_of, next_price}
use Rattle.tda_audit.specs.Certified.{IsUnitSettled}
use Rattle.tda_audit.proofs.Settled.{IsLike, like_back, settled_like, no_cost, priced, AreSettled, settled_certified, certified_settled}
use Rattle.tda_audit.proofs.Lookups.{root_source, root_kind, root_group}

pub gap_same : (a b c d : ℤ) → a ≡ b → c ≡ d → (a -ℤ c) ≡ (b -ℤ d)
gap_same a b c d e f = omega (arith, ints)

module _ (c : Curve) (i : Inputs) (groups : ℕ → List (List ℕ)) (x : Tables) (price : Pricing) (has : HasKinds i.schema)
    (t : Tree) (is : IsTreeOf i.schema (level_at i.schema 0) t) (top : level_of i.spine (nation_of i.spine) ≡ 0)
    (same : groups (level_of i.spine (nation_of i.spine)) ≡ t.groups) (count : groups_at i.schema (level_of i.spine (nation_of i.spine)) ≡ length t.groups)
    (shares : Tables) where
  abbrev s : Schema
  s = i.schema

  abbrev nation : ℕ
  nation = nation_of i.spine

  abbrev G : List (List ℕ)
  G = t.groups

  abbrev L : Layout
  L = root_layout i t.groups

  abbrev prices : List ℤ
  prices = pos 0 ∷ prices_of i.schema i.spine price None

  abbrev flow : List ℕ
  flow = root_flow i t.groups shares (x (nation_of i.spine))

  abbrev source : ℕ → NamedArc
  source n = source_arc n (i.known.total (state_at i n))

  abbrev share : ℕ → ℕ → NamedArc
  share n k = share_arc i L n (state_at i n) k

  abbrev give : ℕ → ℕ → NamedArc
  give u r = give_arc L G (kind_node L (kind_of s (cell_at i r))) u nation (cell_at i r)

  abbrev group : ℕ → ℕ → NamedArc
  group u g = group_arc i L G (level_at s 0) u nation g 0 persons_limit

  abbrev arc : ArcName → PricedArc
  arc a = arc_of c i groups x price None a

  small_in : (j : ℕ) → smallest_of G j < length G
  small_in j = smallest_less G is.groups (possible_cells s) is.whole j

  next_in : (g : ℕ) → 1 ≤ g → g < length G → next_of G g < length G
  next_in g some l = let d = next_less G is.groups (possible_cells s) is.whole g some in omega arith

  share_like : (n k : ℕ) → n < L.states → k < L.kinds → shares (state_at i n) k ≡ kind_sum s k (x (state_at i n))
      → IsLike (arc (Share (state_at i n) k)) (priced (value_of c) (share n k) (slice_index flow (share_place L n k)) prices)
  share_like n k ln lk own = record {
    cost = λ m. sym (no_cost (value_of c) m);
    low = refl;
    high = refl;
    flow = sym own ∙ sym (at_share L (λ n. i.known.total (state_at i n)) (λ n k. shares (state_at i n) k) (λ u r. x nation (cell_at i r)) (λ u g. group_sum G (x nation) g) n k 0 ln lk);
    rise = gap_same _ _ _ _ (sym (root_kind i price t count k lk)) (sym (root_source i price t count n ln));
  }

  give_like : (r : ℕ) → r < L.cells → IsLike (arc (Give nation (cell_at i r))) (priced (value_of c) (give 0 r) (slice_index flow (give_place L 0 r)) prices)
  give_like r lr =
      let j = cell_at i r in record {
        cost = λ m. sym (no_cost (value_of c) m);
        low = refl;
        high = refl;
        flow = sym (at_give L (λ n. i.known.total (state_at i n)) (λ n k. shares (state_at i n) k) (λ u r. x nation (cell_at i r)) (λ u g. group_sum G (x nation) g) 0 r 0 (omega arith) lr);
        rise = gap_same _ _ _ _
            (ap (λ gs. price None (OfGroup nation (smallest_of gs j))) same ∙ sym (root_group i price t count (smallest_of G j) (small_in j)))
            (sym (root_kind i price t count (kind_of s j) (kind_lt s j has.some (cell_in i r lr))));
      }

  end_like : (g : ℕ) → g < length G → next_price c i groups x price None nation g ≡ price_at prices (group_end L G 0 g)
  end_like g lg = elim (cases_eq g 0) [
    | inl e ↦
        let b : (g == 0) ≡ true = eq-eqb g 0 e in
        ap (λ b. cond b (pos 0) (price None (OfGroup nation (next_of (groups (level_of i.spine nation)) g)))) b
        ∙ sym (ap (λ b. price_at prices (cond b 0 (group_node L 0 (next_of G g)))) b)
    | inr ne ↦
        let b : (g == 0) ≡ false = ne_eqb g 0 ne in
        ap (λ b. cond b (pos 0) (price None (OfGroup nation (next_of (groups (level_of i.spine nation)) g)))) b
        ∙ ap (λ gs. price None (OfGroup nation (next_of gs g))) same
        ∙ sym (root_group i price t count (next_of G g) (next_in g (omega arith) lg))
        ∙ sym (ap (λ b. price_at prices (cond b 0 (group_node L 0 (next_of G g)))) b)
  ]

  group_like : (g : ℕ) → g < L.groups → IsLike (arc (Group nation g)) (priced (value_of c) (group 0 g) (slice_index flow (group_place L 0 g)) prices)
  group_like g lg = record {
    cost = λ m. ap (λ gs. arc_cost (value_of c) (terms_of i (level_at s (level_of i.spine nation)) nation (group_at gs g)) m) same
        ∙ ap (λ l. arc_cost (value_of c) (terms_of i (level_at s l) nation (group_at G g)) m) top;
    low = refl;
    high = refl;
    flow = ap (λ gs. group_sum gs (x nation) g) same
        ∙ sym (at_group L (λ n. i.known.total (state_at i n)) (λ n k. shares (state_at i n) k) (λ u r. x nation (cell_at i r)) (λ u g. group_sum G (x nation) g) 0 g 0 (omega arith) lg);
    rise = gap_same _ _ _ _ (end_like g lg) (sym (root_group i price t count g lg));
  }

  unit_is : (u : ℕ) → u < 1 → 0 ≡ u
  unit_is u l = omega arith

  abbrev Settles : Type 0
  Settles = AreSettled (value_of c) L source share give group flow prices

  fixed : (n : ℕ) → n < L.sources → ((source n).arc.low ≡ slice_index flow n) × ((source n).arc.high ≡ slice_index flow n)
  fixed n ln =
      let e = sym (at_source L (λ n. i.known.total (state_at i n)) (λ n k. shares (state_at i n) k) (λ u r. x nation (cell_at i r)) (λ u g. group_sum G (x nation) g) n 0 ln) in (e, e)

  -- settled arcs certify the network
  pub root_certified : ((n k : ℕ) → n < length (states i) → k < kind_count i.schema → shares (state_at i n) k ≡ kind_sum i.schema k (x (state_at i n)))
      → ((n k : ℕ) → n < length (states i) → k < kind_count i.schema → IsSettled (arc_of c i groups x price None (Share (state_at i n) k)))
      → IsUnitSettled c i groups x price None (nation_of i.spine)
      → IsCertified (value_of c) (root_network i t.groups) (root_flow i t.groups shares (x (nation_of i.spine))) (pos 0 ∷ prices_of i.schema i.spine price None)
  root_certified own sh unit =
      settled_certified (value_of c) L source share give group flow prices fixed (record {
        shares = λ n k ln lk. settled_like (arc (Share (state_at i n) k)) _ (share_like n k ln lk (own n k ln lk)) (sh n k ln lk);
        gives = λ u r lu lr.
            subst (λ v. IsSettled (priced (value_of c) (give v r) (slice_index flow (give_place L v r)) prices)) (unit_is u lu)
            (settled_like (arc (Give nation (cell_at i r))) _ (give_like r lr) (unit.each_cell (cell_at i r) (cell_in i r lr) (cell_can i r lr)));
        groups = λ u g lu lg.
            subst (λ v. IsSettled (priced (value_of c) (group v g) (slice_index flow (group_place L v g)) prices)) (unit_is u lu)
            (settled_like (arc (Group nation g)) _ (group_like g lg) (unit.each_group g (subst (λ gs. g < length gs) (sym same) lg)));
      })

  -- and a certified network has settled arcs
  pub record IsRootSettled : Type 0 where
    pub each_share : (n k : ℕ) → n < length (states i) → k < kind_count i.schema → IsSettled (arc_of c i groups x price None (Share (state_at i n) k))
    pub unit : IsUnitSettled c i groups x price None (nation_of i.spine)

  pub root_settled : ((n k : ℕ) → n < length (states i) → k < kind_count i.schema → shares (state_at i n) k ≡ kind_sum i.schema k (x (state_at i n)))
      → IsCertified (value_of c) (root_network i t.groups) (root_flow i t.groups shares (x (nation_of i.spine))) (pos 0 ∷ prices_of i.schema i.spine price None)
      → IsRootSettled
  root_settled own certified =
      let h : Settles = certified_settled (value_of c) L source share give group flow prices certified in record {
        each_share = λ n k ln lk. settled_like _ (arc (Share (state_at i n) k)) (like_back (arc (Share (state_at i n) k)) _ (share_like n k ln lk (own n k ln lk))) (h.shares n k ln lk);
        unit = record {
          each_cell = λ j lj can.
              let r = is_cell i j lj can in
              subst (λ j. IsSettled (arc (Give nation j))) r.is
              (settled_like _ (arc (Give nation (cell_at i r.rank))) (like_back (arc (Give nation (cell_at i r.rank))) _ (give_like r.rank r.low)) (h.gives 0 r.rank (omega arith) r.low));
          each_group = λ g l.
              let lg : g < length G = subst (λ gs. g < length gs) same l in
              settled_like _ (arc (Group nation g)) (like_back (arc (Group nation g)) _ (group_like g lg)) (h.groups 0 g (omega arith) lg);
        };
      }
