-- Arcs that are adjusted from one step size to half of it.
use Rattle.std.specs.Prelude.{◌≡◌, ℕ, ◌+◌, ◌-◌, ◌<◌, ◌≤◌, List, slice_index, Option, Some, ℤ, pos, neg_ℤ, ◌-ℤ◌, ◌*ℤ◌, ◌≤ℤ◌, ◌<ℤ◌, cond}
use Rattle.tda_flow.specs.declared.net.Turn.{Turn}
use Rattle.tda_flow.specs.Network.{Network, arc_count, arc_at, terms_at}
use Rattle.tda_flow.specs.Flow.{arc_cost}
use Rattle.tda_scale.specs.declared.slopes.Slope.{Slope}
use Rattle.tda_scale.specs.declared.spots.Quote.{Quote}
use Rattle.tda_scale.specs.declared.spots.Spot.{Spot}
use Rattle.tda_scale.specs.Searching.{price_of}
use Rattle.tda_scale.specs.Quotes.{IsQuoteAt}
use Rattle.tda_scale.specs.Phase.{square}

-- the flow x keeps the conditions of an arc for the step size d: a step up costs at least d gaps, and a step down saves at most d gaps
pub record Keeps (c : ℕ → ℤ) (low high : ℕ) (g : ℤ) (d x : ℕ) : Type 0 where
  pub up : x + d ≤ high → (pos d *ℤ g) ≤ℤ (c (x + d) -ℤ c x)
  pub down : low + d ≤ x → (c x -ℤ c (x - d)) ≤ℤ (pos d *ℤ g)

abbrev pub KeepsAt : (ℤ → ℤ) → Network → ℕ → List ℕ → (ℕ → ℤ) → ℕ → Type 0
KeepsAt curve net d flow p k =
    Keeps (arc_cost curve (terms_at net k)) (arc_at net k).low (arc_at net k).high (p (arc_at net k).to -ℤ p (arc_at net k).from) d (slice_index flow k)

-- a step of this quote costs less than it brings
abbrev pub Pays : Option ℤ → ℤ → Type 0
Pays quote gap = (r : ℤ) × (quote ≡ Some r) × (r <ℤ gap)

-- a step on arc k pays that way
pub record IsGaining (quote : Quote) (gap : ℤ) (k : ℕ) (t : Turn) : Type 0 where
  pub arc : t.arc ≡ k
  pub pays : Pays (cond t.back quote.down quote.up) (cond t.back (neg_ℤ gap) gap)

-- the first n arcs are adjusted to the step size d, and the others keep their conditions for twice as much
pub record AreKept (net : Network) (slopes : List Slope) (d n : ℕ) (flow : List ℕ) (spots : List Spot) (quotes : List Quote) : Type 0 where
  pub now : (k : ℕ) → k < n → KeepsAt square net d flow (price_of spots) k
  pub quoted : (k : ℕ) → k < n → IsQuoteAt net slopes d flow quotes k
  pub later : (k : ℕ) → n ≤ k → k < arc_count net → KeepsAt square net (d + d) flow (price_of spots) k
