-- Costs that no usable turn lowers are prices, and the cost of a circulation is not negative.
use Rattle.std.proofs.Common.{◌≡◌, ℕ, ◌<◌, ◌^◌, true, false, List, length, slice_index, ℤ, pos, nat_abs, ◌-ℤ◌, ◌*ℤ◌, ◌≤ℤ◌, ◌<ℤ◌, arith}
use Rattle.std.proofs.lemmas.Int.{ints}
use Rattle.tda_loss.specs.Curve.{IsWithin, IsCurve}
use Rattle.tda_loss.proofs.Ring.{pos-mul-le}
use Rattle.tda_flow.specs.Sum.{sum_below}
use Rattle.tda_flow.proofs.Sums.{sum_below-le, sum_below-zero}
use Rattle.tda_flow.specs.declared.net.Term.{Term}
use Rattle.tda_flow.specs.Network.{Network, arc_count, arc_at, terms_at, term_at, IsSound}
use Rattle.tda_flow.specs.Flow.{arc_cost, term_cost, cost}
use Rattle.tda_flow.specs.Certificate.{price_at, IsCertified, ArePrices}
use Rattle.tda_cancel.specs.Room.{NoneLowers}

-- prices are the costs less one of them
pub certified : (curve : ℤ → ℤ) (net : Network) (flow : List ℕ) (costs : ℕ → ℤ) (prices : List ℤ) (hub : ℤ) → IsSound net → NoneLowers curve net flow costs
    → ((v : ℕ) → v < net.nodes → price_at prices v ≡ costs v -ℤ hub) → IsCertified curve net flow prices
certified curve net flow costs prices hub sound h is k l =
    let to = is (arc_at net k).to (sound.arcs k l).to in
    let from = is (arc_at net k).from (sound.arcs k l).from in (
      λ bad.
          let low = h (record { arc = k; back = false }) (record { arc = l; forwards = λ f. let a = bad.0 in omega arith; backwards = λ f. absurd (cc) }) in
          let less = bad.1 in
          omega (arith, ints),
      λ bad.
          let low = h (record { arc = k; back = true }) (record { arc = l; forwards = λ f. absurd (cc); backwards = λ f. let a = bad.0 in omega arith }) in
          let less = bad.1 in
          omega (arith, ints),
    )

pub are_prices : (net : Network) (costs : ℕ → ℤ) (prices : List ℤ) (hub : ℕ) → length prices ≡ net.nodes → hub < net.nodes
    → ((v : ℕ) → v < net.nodes → IsWithin (2 ^ 73) (costs v)) → ((v : ℕ) → v < net.nodes → price_at prices v ≡ costs v -ℤ costs hub) → ArePrices net prices
are_prices net costs prices hub size node near is = record {
  count = size;
  within =
      λ v l.
      let a = near v l in
      let b = near hub node in
      record { low = omega (arith, ints, is v l, a.low, b.high); high = omega (arith, ints, is v l, a.high, b.low) };
}

sum-low : (n : ℕ) (f : ℕ → ℤ) → ((k : ℕ) → k < n → pos 0 ≤ℤ f k) → pos 0 ≤ℤ sum_below n f
sum-low n f h = omega (arith, ints, sum_below-zero n, sum_below-le n (λ k. pos 0) f h)

pub cost-low : (curve : ℤ → ℤ) (net : Network) (flow : List ℕ) → IsCurve curve → pos 0 ≤ℤ cost curve net flow
unfolding cost arc_cost
cost-low curve net flow laws =
    sum-low (arc_count net) _
    (λ k l. sum-low (length (terms_at net k)) _ (λ j m. low (term_at (terms_at net k) j) (slice_index flow k)))
  where
    low : (t : Term) (x : ℕ) → pos 0 ≤ℤ term_cost curve t x
    low t x =
        let z : pos t.weight *ℤ pos 0 ≡ pos 0 = omega (arith, ints) in
        omega (arith, ints, pos-mul-le t.weight (pos 0) (curve (pos x -ℤ t.target)) (laws.low (pos x -ℤ t.target)))

-- a number that falls, and stays at least 0
pub falls : (a b : ℤ) → pos 0 ≤ℤ a → a <ℤ b → nat_abs a < nat_abs b
falls a b low less = omega (arith, ints)
