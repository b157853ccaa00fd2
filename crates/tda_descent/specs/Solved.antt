-- A circulation with prices that certify it.
use Rattle.std.specs.Prelude.{ℕ, ◌≡◌, ℤ, pos, List}
use Rattle.tda_flow.specs.Network.{Network}
use Rattle.tda_flow.specs.Flow.{IsCirculation}
use Rattle.tda_flow.specs.Certificate.{IsCertified, ArePrices, price_at}

pub record IsSolved (curve : ℤ → ℤ) (net : Network) (flow : List ℕ) (prices : List ℤ) : Type 0 where
  pub circulates : IsCirculation net flow
  pub certified : IsCertified curve net flow prices
  pub hub : price_at prices 0 ≡ pos 0
  pub are_prices : ArePrices net prices
