-- The prices of a settled net.
use Rattle.std.proofs.Common.{◌≡◌, ℕ, ◌<◌, ◌≤◌, ◌^◌, List, length, take, ℤ, pos, ◌-ℤ◌, ap, ◌∙◌, arith}
use Rattle.std.proofs.lemmas.Int.{ints}
use Rattle.std.proofs.lemmas.List.{get_or-take, length-take-le}
use Rattle.tda_loss.specs.Curve.{IsWithin}
use Rattle.tda_flow.specs.Network.{Network, IsSound}
use Rattle.tda_flow.specs.Certificate.{price_at, IsCertified, ArePrices}
use Rattle.tda_cancel.specs.Rows.{cost_at}
use Rattle.tda_cancel.specs.Room.{NoneLowers}
use Rattle.tda_cancel.proofs.Settled.{certified, are_prices}

-- what a solver leaves
pub record IsSolved (curve : ℤ → ℤ) (net : Network) (flow : List ℕ) (prices : List ℤ) : Type 0 where
  pub certified : IsCertified curve net flow prices
  pub hub : price_at prices 0 ≡ pos 0
  pub are : ArePrices net prices

pub solved : (curve : ℤ → ℤ) (net : Network) (flow : List ℕ) (costs lent : List ℤ) (prices : List ℤ) (n : ℕ) → IsSound net → n ≡ net.nodes → n ≤ length lent → lent ≡ costs
    → NoneLowers curve net flow (cost_at costs) → ((v : ℕ) → v < net.nodes → IsWithin (2 ^ 73) (cost_at costs v)) → length prices ≡ net.nodes
    → ((v : ℕ) → v < length (take n lent) → price_at prices v ≡ cost_at (take n lent) v -ℤ cost_at (take n lent) 0) → IsSolved curve net flow prices
solved curve net flow costs lent prices n sound en room e none near size is =
    let some = sound.some_node in
    let width = length-take-le n lent room in
    let same : (v : ℕ) → v < n → cost_at (take n lent) v ≡ cost_at costs v = λ v l. get_or-take n lent v (pos 0) l ∙ ap (λ z. cost_at z v) e in
    let gives : (v : ℕ) → v < net.nodes → price_at prices v ≡ cost_at costs v -ℤ cost_at costs 0 =
    λ v l. omega (arith, ints, is v (omega arith), same v (omega arith), same 0 (omega arith)) in
    record {
      certified = certified curve net flow (cost_at costs) prices (cost_at costs 0) sound none gives;
      hub = let a = gives 0 (omega arith) in omega (arith, ints);
      are = are_prices net (cost_at costs) prices 0 size (omega arith) near gives;
    }
