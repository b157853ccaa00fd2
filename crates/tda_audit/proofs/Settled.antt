-- A network over a layout is certified exactly where each of its arcs is settled.
use Rattle.std.proofs.Common.{◌≡◌, ℕ, ◌+◌, ◌-◌, ◌<◌, List, [], length, get_or, slice_index, ℤ, ◌-ℤ◌, ◌≤ℤ◌, ◌<ℤ◌, refl, sym, ap, ◌∙◌, arith}
use Rattle.std.proofs.lemmas.Int.{ints, by_lt_z}
use Rattle.std.proofs.lemmas.List.{get_or-map}
use Rattle.tda_flow.specs.Network.{Network, arc_at, terms_at}
use Rattle.tda_flow.specs.Flow.{arc_cost}
use Rattle.tda_flow.specs.Sum.{sum_below}
use Rattle.tda_flow.specs.Certificate.{price_at, gap, IsBadUp, IsBadDown, IsCertified}
use Rattle.tda_fitnet.specs.declared.layout.Layout.{Layout}
use Rattle.tda_fitnet.specs.Layout.{layout_list, arc_number, share_place, give_place, group_place}
use Rattle.tda_fitnet.specs.Arcs.{NamedArc, network_of}
use Rattle.tda_fitnet.proofs.Ranges.{place_below, length_all, at_source, at_share, at_give, at_group}
use Rattle.tda_fitnet.proofs.Places.{each_place, count_is, arc_at_is, no_named}
use Rattle.tda_audit.specs.Arcs.{PricedArc, IsSettled, free}

-- two arcs that say the same
pub record IsLike (a b : PricedArc) : Type 0 where
  pub cost : (n : ℕ) → a.cost n ≡ b.cost n
  pub low : a.low ≡ b.low
  pub high : a.high ≡ b.high
  pub flow : a.flow ≡ b.flow
  pub rise : a.rise ≡ b.rise

pub like_back : (a b : PricedArc) → IsLike a b → IsLike b a
like_back a b h = record { cost = λ n. sym (h.cost n); low = sym h.low; high = sym h.high; flow = sym h.flow; rise = sym h.rise }

-- so both are settled or neither is
pub settled_like : (a b : PricedArc) → IsLike a b → IsSettled a → IsSettled b
settled_like a b e h = record {
  up = λ l. same_up a.rise b.rise _ _ _ _ e.rise (e.cost (a.flow + 1) ∙ ap (λ n. b.cost (n + 1)) e.flow) (e.cost a.flow ∙ ap b.cost e.flow) (h.up (less _ _ _ _ e.flow e.high l));
  down = λ l. same_down a.rise b.rise _ _ _ _ e.rise (e.cost a.flow ∙ ap b.cost e.flow) (e.cost (a.flow - 1) ∙ ap (λ n. b.cost (n - 1)) e.flow) (h.down (less _ _ _ _ e.low e.flow l));
}
  where
    less : (m n k l : ℕ) → m ≡ n → k ≡ l → n < l → m < k
    less m n k l d e h = omega arith

    same_up : (r s x y z w : ℤ) → r ≡ s → x ≡ y → z ≡ w → r ≤ℤ (x -ℤ z) → s ≤ℤ (y -ℤ w)
    same_up r s x y z w e f g h = omega (arith, ints)

    same_down : (r s x y z w : ℤ) → r ≡ s → x ≡ y → z ≡ w → (x -ℤ z) ≤ℤ r → (y -ℤ w) ≤ℤ s
    same_down r s x y z w e f g h = omega (arith, ints)

pub no_cost : (curve : ℤ → ℤ) (n : ℕ) → arc_cost curve [] n ≡ free n
unfolding arc_cost sum_below
no_cost curve n = refl

-- what an arc is with a flow and prices
abbrev pub priced : (ℤ → ℤ) → NamedArc → ℕ → List ℤ → PricedArc
priced curve a flow prices = record {
  cost = arc_cost curve a.terms;
  low = a.arc.low;
  high = a.arc.high;
  flow = flow;
  rise = price_at prices a.arc.to -ℤ price_at prices a.arc.from;
}

module _ (curve : ℤ → ℤ) (l : Layout) (source : ℕ → NamedArc) (share give group : ℕ → ℕ → NamedArc) (flow : List ℕ) (prices : List ℤ) where
  abbrev arcs : List NamedArc
  arcs = layout_list l source share give group

  abbrev net : Network
  net = network_of l arcs

  abbrev NotBad : ℕ → Type 0
  NotBad k = (¬ (IsBadUp curve net flow prices k)) × (¬ (IsBadDown curve net flow prices k))

  -- the arc of number k as it stands in the network
  abbrev here : ℕ → PricedArc
  here k = record {
    cost = arc_cost curve (terms_at net k);
    low = (arc_at net k).low;
    high = (arc_at net k).high;
    flow = slice_index flow k;
    rise = gap net prices k;
  }

  not_bad : (k : ℕ) → IsSettled (here k) → NotBad k
  not_bad k h = (λ bad. over _ _ (h.up bad.0) bad.1, λ bad. over _ _ (h.down bad.0) bad.1)
    where
      over : (a b : ℤ) → a ≤ℤ b → b <ℤ a → ⊥
      over a b h k = omega (arith, ints)

  is_settled : (k : ℕ) → NotBad k → IsSettled (here k)
  is_settled k h = record {
    up = λ l. by_lt_z _ (gap net prices k) (λ bad. absurd (h.0 (l, bad))) (λ ok. ok);
    down = λ l. by_lt_z (gap net prices k) _ (λ bad. absurd (h.1 (l, bad))) (λ ok. ok);
  }

  -- it is the named arc that stands there
  pub named_at : (k : ℕ) (a : NamedArc) → k < arc_number l → get_or (layout_list l source share give group) k no_named ≡ a
      → (arc_at (network_of l (layout_list l source share give group)) k ≡ a.arc) × (terms_at (network_of l (layout_list l source share give group)) k ≡ a.terms)
  named_at k a low e =
      let inside : k < length arcs = omega (arith, length_all l source share give group) in
      (arc_at_is l arcs k inside ∙ ap (λ b. b.arc) e, get_or-map (λ b. b.terms) arcs k no_named [] inside ∙ ap (λ b. b.terms) e)

  named_like : (k : ℕ) (a : NamedArc) → k < arc_number l → get_or arcs k no_named ≡ a → IsLike (here k) (priced curve a (slice_index flow k) prices)
  named_like k a low e =
      let at = named_at k a low e in
      record {
        cost = λ n. ap (λ ts. arc_cost curve ts n) at.1;
        low = ap (λ b. b.low) at.0;
        high = ap (λ b. b.high) at.0;
        flow = refl;
        rise = ap (λ b. price_at prices b.to -ℤ price_at prices b.from) at.0;
      }

  to_named : (k : ℕ) (a : NamedArc) → k < arc_number l → get_or arcs k no_named ≡ a → IsSettled (here k) → IsSettled (priced curve a (slice_index flow k) prices)
  to_named k a low e h = settled_like (here k) (priced curve a (slice_index flow k) prices) (named_like k a low e) h

  from_named : (k : ℕ) (a : NamedArc) → k < arc_number l → get_or arcs k no_named ≡ a → IsSettled (priced curve a (slice_index flow k) prices) → IsSettled (here k)
  from_named k a low e h = settled_like (priced curve a (slice_index flow k) prices) (here k) (like_back (here k) (priced curve a (slice_index flow k) prices) (named_like k a low e)) h

  -- all arcs but those of sources are settled
  pub record AreSettled : Type 0 where
    pub shares : (n k : ℕ) → n < l.states → k < l.kinds → IsSettled (priced curve (share n k) (slice_index flow (share_place l n k)) prices)
    pub gives : (u r : ℕ) → u < l.units → r < l.cells → IsSettled (priced curve (give u r) (slice_index flow (give_place l u r)) prices)
    pub groups : (u g : ℕ) → u < l.units → g < l.groups → IsSettled (priced curve (group u g) (slice_index flow (group_place l u g)) prices)

  share_low : (n k : ℕ) → n < l.states → k < l.kinds → share_place l n k < arc_number l
  share_low n k ln lk = let b = place_below l.states l.kinds n k ln lk in omega arith

  give_low : (u r : ℕ) → u < l.units → r < l.cells → give_place l u r < arc_number l
  give_low u r lu lr = let b = place_below l.units l.cells u r lu lr in omega arith

  group_low : (u g : ℕ) → u < l.units → g < l.groups → group_place l u g < arc_number l
  group_low u g lu lg = let b = place_below l.units l.groups u g lu lg in omega arith

  pub settled_certified : ((n : ℕ) → n < l.sources → ((source n).arc.low ≡ slice_index flow n) × ((source n).arc.high ≡ slice_index flow n)) → AreSettled → IsCertified curve net flow prices
  settled_certified fixed h k low =
      each_place l NotBad
      (λ n ln.
      let at = named_at n (source n) (omega arith) (at_source l source share give group n no_named ln) in
      let same = fixed n ln in
      let low_is : (arc_at net n).low ≡ slice_index flow n = ap (λ b. b.low) at.0 ∙ same.0 in
      let high_is : (arc_at net n).high ≡ slice_index flow n = ap (λ b. b.high) at.0 ∙ same.1 in
      (λ bad. never _ _ high_is bad.0, λ bad. never_low _ _ low_is bad.0))
      (λ n k ln lk. not_bad _ (from_named (share_place l n k) (share n k) (share_low n k ln lk) (at_share l source share give group n k no_named ln lk) (h.shares n k ln lk)))
      (λ u r lu lr. not_bad _ (from_named (give_place l u r) (give u r) (give_low u r lu lr) (at_give l source share give group u r no_named lu lr) (h.gives u r lu lr)))
      (λ u g lu lg. not_bad _ (from_named (group_place l u g) (group u g) (group_low u g lu lg) (at_group l source share give group u g no_named lu lg) (h.groups u g lu lg)))
      k (omega (arith, count_is l source share give group flow))
    where
      never : (a b : ℕ) → a ≡ b → b < a → ⊥
      never a b e l = omega arith

      never_low : (a b : ℕ) → a ≡ b → a < b → ⊥
      never_low a b e l = omega arith

  pub certified_settled : IsCertified curve net flow prices → AreSettled
  certified_settled h = record {
    shares = λ n k ln lk. at (share_place l n k) (share n k) (share_low n k ln lk) (at_share l source share give group n k no_named ln lk);
    gives = λ u r lu lr. at (give_place l u r) (give u r) (give_low u r lu lr) (at_give l source share give group u r no_named lu lr);
    groups = λ u g lu lg. at (group_place l u g) (group u g) (group_low u g lu lg) (at_group l source share give group u g no_named lu lg);
  }
    where
      at : (k : ℕ) (a : NamedArc) → k < arc_number l → get_or arcs k no_named ≡ a → IsSettled (priced curve a (slice_index flow k) prices)
      at k a low e = to_named k a low e (is_settled k (h k (omega (arith, count_is l source share give group flow))))
