-- Nodes that begin with prices that were handed in.
use Rattle.std.specs.Prelude.{◌≡◌, ℕ, ◌<◌, ◌≤◌, List, length, ℤ}
use Rattle.tda_flow.specs.Certificate.{price_at}
use Rattle.tda_scale.specs.declared.spots.Spot.{Spot}
use Rattle.tda_scale.specs.Spots.{spot_at}

-- the first n nodes have the prices of the list, the others those that they had, and nothing else changes
pub record ArePriced (prices : List ℤ) (n : ℕ) (spots more : List Spot) : Type 0 where
  pub count : length more ≡ length spots
  pub price : (v : ℕ) → v < n → (spot_at more v).price ≡ price_at prices v
  pub later : (v : ℕ) → n ≤ v → (spot_at more v).price ≡ (spot_at spots v).price
  pub excess : (v : ℕ) → (spot_at more v).excess ≡ (spot_at spots v).excess
  pub mark : (v : ℕ) → (spot_at more v).mark ≡ (spot_at spots v).mark
