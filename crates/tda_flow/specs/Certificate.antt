-- Prices that show a circulation to be a least one.
use Rattle.std.specs.Prelude.{ℕ, ◌≡◌, ◌<◌, ◌^◌, ◌+◌, ◌-◌, List, length, slice_index, slice_index_or, ℤ, pos, ◌-ℤ◌, ◌<ℤ◌}
use Rattle.tda_loss.specs.Curve.{IsWithin}
use Rattle.tda_flow.specs.Network.{Network, arc_count, arc_at, terms_at}
use Rattle.tda_flow.specs.Flow.{arc_cost, cost, IsCirculation}

-- the price of a node
abbrev pub price_at : List ℤ → ℕ → ℤ
price_at prices v = slice_index_or prices v (pos 0)

-- how much higher the price is at the end of arc k than at its start
abbrev pub gap : Network → List ℤ → ℕ → ℤ
gap net prices k = price_at prices (arc_at net k).to -ℤ price_at prices (arc_at net k).from

-- one more unit on arc k would cost less than it brings
abbrev pub IsBadUp : (ℤ → ℤ) → Network → List ℕ → List ℤ → ℕ → Type 0
IsBadUp curve net flow prices k =
    (slice_index flow k < (arc_at net k).high)
    × ((arc_cost curve (terms_at net k) (slice_index flow k + 1) -ℤ arc_cost curve (terms_at net k) (slice_index flow k)) <ℤ gap net prices k)

-- the last unit on arc k costs more than it brings
abbrev pub IsBadDown : (ℤ → ℤ) → Network → List ℕ → List ℤ → ℕ → Type 0
IsBadDown curve net flow prices k =
    ((arc_at net k).low < slice_index flow k)
    × (gap net prices k <ℤ (arc_cost curve (terms_at net k) (slice_index flow k) -ℤ arc_cost curve (terms_at net k) (slice_index flow k - 1)))

-- no arc below n is bad on a side
abbrev pub NoneBadBelow : (ℤ → ℤ) → Network → List ℕ → List ℤ → ℕ → Type 0
NoneBadBelow curve net flow prices n =
    (k : ℕ) → k < n → (¬ (IsBadUp curve net flow prices k)) × (¬ (IsBadDown curve net flow prices k))

-- no arc is bad on a side
abbrev pub IsCertified : (ℤ → ℤ) → Network → List ℕ → List ℤ → Type 0
IsCertified curve net flow prices = NoneBadBelow curve net flow prices (arc_count net)

-- one price for each node, within 2^96 either way
pub record ArePrices (net : Network) (prices : List ℤ) : Type 0 where
  pub count : length prices ≡ net.nodes
  pub within : (v : ℕ) → v < net.nodes → IsWithin (2 ^ 96) (price_at prices v)

-- the same prices certify some circulation of the same cost
pub record IsCertifiedElsewhere (curve : ℤ → ℤ) (net : Network) (flow : List ℕ) (prices : List ℤ) : Type 0 where
  pub other : List ℕ
  pub circulates : IsCirculation net other
  pub certified : IsCertified curve net other prices
  pub costs : cost curve net flow ≡ cost curve net other
