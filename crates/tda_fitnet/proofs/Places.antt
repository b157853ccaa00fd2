-- The places of a layout, sums over them, and what comes into a node and goes out of it as sums by place.
use Rattle.std.proofs.Common.{◌≡◌, ℕ, zero, suc, ◌+◌, ◌-◌, ◌*◌, ◌<◌, List, length, get_or, slice_index, cond, ◌==◌, Bool, true, false, pos, refl, ap, ◌∙◌, subst, inl, inr, arith, suc-mul}
use Rattle.std.proofs.lemmas.Int.{ints}
use Rattle.std.proofs.lemmas.Bool.{cases_lt}
use Rattle.std.proofs.lemmas.List.{get_or-map, length-map}
use Rattle.tda_model.proofs.Shares.{sum_range_more}
use Rattle.tda_flow.specs.declared.net.Arc.{Arc}
use Rattle.tda_flow.specs.Sum.{sum_below}
use Rattle.tda_flow.specs.Network.{Network, arc_count, arc_at, no_arc}
use Rattle.tda_flow.specs.Flow.{into, out_of}
use Rattle.tda_flow.proofs.Sums.{sum_below-ext}
use Rattle.tda_fitnet.specs.declared.name.ArcName.TheVariants.{Fixed}
use Rattle.tda_fitnet.specs.declared.layout.Layout.{Layout}
use Rattle.tda_fitnet.specs.Layout.{layout_list, arc_number, share_place, give_place, group_place}
use Rattle.tda_fitnet.specs.Arcs.{NamedArc, network_of, plain_arc}
use Rattle.tda_fitnet.proofs.Ranges.{place_below, below, below_same, below_add, below_mul, length_all, at_source, at_share, at_give, at_group}

pub split_place : (m n k : ℕ) → k < m * n → (i : ℕ) × (r : ℕ) × (i < m) × (r < n) × (i * n + r ≡ k)
split_place zero n k l = absurd (omega arith)
split_place (suc m) n k l =
    let s = suc-mul m n in
    elim (cases_lt k (m * n)) [
      | inl old ↦ let h = split_place m n k old in (h.0, h.1, omega (arith, h.2), h.3, h.4)
      | inr new ↦ (m, k - m * n, omega arith, omega arith, omega arith)
    ]

pub each_place : (l : Layout) (P : ℕ → Type 0)
    → ((n : ℕ) → n < l.sources → P n)
    → ((n k : ℕ) → n < l.states → k < l.kinds → P (share_place l n k))
    → ((u r : ℕ) → u < l.units → r < l.cells → P (give_place l u r))
    → ((u g : ℕ) → u < l.units → g < l.groups → P (group_place l u g))
    → (k : ℕ) → k < arc_number l → P k
each_place l P source share give group k low =
    let a : ℕ = l.sources in
    let b : ℕ = l.states * l.kinds in
    let c : ℕ = l.units * l.cells in
    elim (cases_lt k a) [
      | inl first ↦ source k first
      | inr past ↦ elim (cases_lt k (a + b)) [
        | inl second ↦
            let h = split_place l.states l.kinds (k - a) (omega arith) in
            let e : share_place l h.0 h.1 ≡ k = omega (arith, h.4) in subst P e (share h.0 h.1 h.2 h.3)
        | inr past2 ↦ elim (cases_lt k (a + (b + c))) [
          | inl third ↦
              let h = split_place l.units l.cells (k - (a + b)) (omega arith) in
              let e : give_place l h.0 h.1 ≡ k = omega (arith, h.4) in subst P e (give h.0 h.1 h.2 h.3)
          | inr past3 ↦
              let h = split_place l.units l.groups (k - (a + (b + c))) (omega arith) in
              let e : group_place l h.0 h.1 ≡ k = omega (arith, h.4) in subst P e (group h.0 h.1 h.2 h.3)
        ]
      ]
    ]

-- a sum over all places
abbrev pub by_place : Layout → (ℕ → ℕ) → (ℕ → ℕ → ℕ) → (ℕ → ℕ → ℕ) → (ℕ → ℕ → ℕ) → ℕ
by_place l source share give group =
    below l.sources source + (below l.states (λ n. below l.kinds (share n)) + (below l.units (λ u. below l.cells (give u)) + below l.units (λ u. below l.groups (group u))))

pub sum_places : (l : Layout) (f : ℕ → ℕ) → below (arc_number l) f ≡ by_place l f (λ n k. f (share_place l n k)) (λ u r. f (give_place l u r)) (λ u g. f (group_place l u g))
sum_places l f =
    let a : ℕ = l.sources in
    let b : ℕ = l.states * l.kinds in
    let c : ℕ = l.units * l.cells in
    let d : ℕ = l.units * l.groups in
    omega (
      arith,
      below_add a (b + (c + d)) f,
      below_add b (c + d) (λ k. f (a + k)),
      below_add c d (λ k. f (a + (b + k))),
      below_mul l.states l.kinds (λ k. f (a + k)),
      below_mul l.units l.cells (λ k. f (a + (b + k))),
      below_mul l.units l.groups (λ k. f (a + (b + (c + k)))),
    )

pub by_place_same : (l : Layout) (f f2 : ℕ → ℕ) (s s2 v v2 g g2 : ℕ → ℕ → ℕ)
    → ((n : ℕ) → n < l.sources → f n ≡ f2 n)
    → ((n k : ℕ) → n < l.states → k < l.kinds → s n k ≡ s2 n k)
    → ((u r : ℕ) → u < l.units → r < l.cells → v u r ≡ v2 u r)
    → ((u h : ℕ) → u < l.units → h < l.groups → g u h ≡ g2 u h)
    → by_place l f s v g ≡ by_place l f2 s2 v2 g2
by_place_same l f f2 s s2 v v2 g g2 hf hs hv hg =
    omega (
      arith,
      below_same l.sources f f2 hf,
      below_same l.states (λ n. below l.kinds (s n)) (λ n. below l.kinds (s2 n)) (λ n ln. below_same l.kinds (s n) (s2 n) (λ k lk. hs n k ln lk)),
      below_same l.units (λ u. below l.cells (v u)) (λ u. below l.cells (v2 u)) (λ u lu. below_same l.cells (v u) (v2 u) (λ r lr. hv u r lu lr)),
      below_same l.units (λ u. below l.groups (g u)) (λ u. below l.groups (g2 u)) (λ u lu. below_same l.groups (g u) (g2 u) (λ h lh. hg u h lu lh)),
    )

pub pos_below : (n : ℕ) (f : ℕ → ℕ) → sum_below n (λ k. pos (f k)) ≡ pos (below n f)
unfolding sum_below
pos_below zero f = refl
pos_below (suc n) f = omega (arith, ints, pos_below n f, sum_range_more f n)

pos_cond : (b : Bool) (x : ℕ) → cond b (pos x) (pos 0) ≡ pos (cond b x 0)
pos_cond true x = refl
pos_cond false x = refl

abbrev pub no_named : NamedArc
no_named = plain_arc Fixed 0 0 0 0

module _ (l : Layout) (arcs : List NamedArc) where
  pub arc_count_is : arc_count (network_of l arcs) ≡ length arcs
  arc_count_is = length-map arcs (λ a. a.arc)

  pub arc_at_is : (k : ℕ) → k < length arcs → arc_at (network_of l arcs) k ≡ (get_or arcs k no_named).arc
  arc_at_is k low = get_or-map (λ a. a.arc) arcs k no_named no_arc low

-- what ends, or begins, at a node
module _ (l : Layout) (source : ℕ → NamedArc) (share give group : ℕ → ℕ → NamedArc) (flow : List ℕ) where
  abbrev arcs : List NamedArc
  arcs = layout_list l source share give group

  abbrev net : Network
  net = network_of l arcs

  pub count_is : arc_count net ≡ arc_number l
  count_is = arc_count_is l arcs ∙ length_all l source share give group

  pub source_is : (n : ℕ) → n < l.sources → arc_at net n ≡ (source n).arc
  source_is n low = arc_at_is l arcs n (omega (arith, length_all l source share give group)) ∙ ap (λ a. a.arc) (at_source l source share give group n no_named low)

  share_low : (n k : ℕ) → n < l.states → k < l.kinds → share_place l n k < length arcs
  share_low n k low lk = let p = place_below l.states l.kinds n k low lk in omega (arith, length_all l source share give group)

  pub share_is : (n k : ℕ) → n < l.states → k < l.kinds → arc_at net (share_place l n k) ≡ (share n k).arc
  share_is n k low lk = arc_at_is l arcs (share_place l n k) (share_low n k low lk) ∙ ap (λ a. a.arc) (at_share l source share give group n k no_named low lk)

  give_low : (u r : ℕ) → u < l.units → r < l.cells → give_place l u r < length arcs
  give_low u r low lr = let p = place_below l.units l.cells u r low lr in omega (arith, length_all l source share give group)

  pub give_is : (u r : ℕ) → u < l.units → r < l.cells → arc_at net (give_place l u r) ≡ (give u r).arc
  give_is u r low lr = arc_at_is l arcs (give_place l u r) (give_low u r low lr) ∙ ap (λ a. a.arc) (at_give l source share give group u r no_named low lr)

  group_low : (u g : ℕ) → u < l.units → g < l.groups → group_place l u g < length arcs
  group_low u g low lg = let p = place_below l.units l.groups u g low lg in omega (arith, length_all l source share give group)

  pub group_is : (u g : ℕ) → u < l.units → g < l.groups → arc_at net (group_place l u g) ≡ (group u g).arc
  group_is u g low lg = arc_at_is l arcs (group_place l u g) (group_low u g low lg) ∙ ap (λ a. a.arc) (at_group l source share give group u g no_named low lg)

  module _ (end : Arc → ℕ) (v : ℕ) where
    abbrev at : ℕ → ℕ
    at k = cond (end (arc_at net k) == v) (slice_index flow k) 0

    abbrev sums : ℕ
    sums = by_place l
        (λ n. cond (end (source n).arc == v) (slice_index flow n) 0)
        (λ n k. cond (end (share n k).arc == v) (slice_index flow (share_place l n k)) 0)
        (λ u r. cond (end (give u r).arc == v) (slice_index flow (give_place l u r)) 0)
        (λ u g. cond (end (group u g).arc == v) (slice_index flow (group_place l u g)) 0)

    pub ends_sum : sum_below (arc_count net) (λ k. cond (end (arc_at net k) == v) (pos (slice_index flow k)) (pos 0)) ≡ pos sums
    ends_sum =
        sum_below-ext (arc_count net) _ (λ k. pos (at k)) (λ k low. pos_cond (end (arc_at net k) == v) (slice_index flow k))
        ∙ pos_below (arc_count net) at
        ∙ ap pos (ap (λ n. below n at) count_is ∙ sum_places l at
        ∙ by_place_same l at _ (λ n k. at (share_place l n k)) _ (λ u r. at (give_place l u r)) _ (λ u g. at (group_place l u g)) _
        (λ n low. ap (λ a. cond (end a == v) (slice_index flow n) 0) (source_is n low))
        (λ n k low lk. ap (λ a. cond (end a == v) (slice_index flow (share_place l n k)) 0) (share_is n k low lk))
        (λ u r low lr. ap (λ a. cond (end a == v) (slice_index flow (give_place l u r)) 0) (give_is u r low lr))
        (λ u g low lg. ap (λ a. cond (end a == v) (slice_index flow (group_place l u g)) 0) (group_is u g low lg)))

  pub into_is : (v : ℕ) → into net flow v ≡ pos (sums (λ a. a.to) v)
  unfolding into
  into_is v = ends_sum (λ a. a.to) v

  pub out_is : (v : ℕ) → out_of net flow v ≡ pos (sums (λ a. a.from) v)
  unfolding out_of
  out_is v = ends_sum (λ a. a.from) v
