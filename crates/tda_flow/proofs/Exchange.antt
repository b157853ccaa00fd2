-- The sum over the arcs of the gap times the flow, as a sum over the nodes.
use Rattle.std.proofs.Common.{◌≡◌, ℕ, ◌<◌, ℤ, pos, ◌-ℤ◌, ◌*ℤ◌, sym, ap, ◌∙◌, cond, eqb, List, slice_index, arith}
use Rattle.std.proofs.lemmas.Int.{ints}
use Rattle.tda_flow.specs.Sum.{sum_below}
use Rattle.tda_loss.proofs.Ring.{mul-cond, mul-sub, sub-mul}
use Rattle.tda_flow.proofs.Sums.{sum_below-ext, sum_below-sub, sum_below-mul, sum_below-swap, sum_below-point, sum_below-zero}
use Rattle.tda_flow.specs.Network.{Network, arc_count, arc_at, IsSound}
use Rattle.tda_flow.specs.Flow.{into, out_of, IsCirculation}
use Rattle.tda_flow.specs.Certificate.{gap, price_at}

-- weights at the nodes, gathered by the arcs that end there
pub gathered : (m n : ℕ) (p : ℕ → ℤ) (end : ℕ → ℕ) (x : ℕ → ℤ) → ((k : ℕ) → k < m → end k < n)
    → sum_below n (λ v. p v *ℤ sum_below m (λ k. cond (eqb (end k) v) (x k) (pos 0))) ≡ sum_below m (λ k. p (end k) *ℤ x k)
gathered m n p end x h =
    sum_below-ext n _ (λ v. sum_below m (λ k. cond (eqb (end k) v) (p v *ℤ x k) (pos 0)))
    (λ v l.
    sym (sum_below-mul m (p v) (λ k. cond (eqb (end k) v) (x k) (pos 0)))
    ∙ sum_below-ext m _ _ (λ k l'. mul-cond (p v) (x k) (eqb (end k) v)))
    ∙ sum_below-swap n m (λ v k. cond (eqb (end k) v) (p v *ℤ x k) (pos 0))
    ∙ sum_below-ext m _ _ (λ k l. sum_below-point n (end k) (λ v. p v *ℤ x k) (h k l))

-- what a node has too much
abbrev pub excess : Network → List ℕ → ℕ → ℤ
excess net flow v = into net flow v -ℤ out_of net flow v

-- weights at the nodes: their sum over what the nodes have too much is a sum over the arcs
pub exchange : (net : Network) (flow : List ℕ) (p : ℕ → ℤ) → IsSound net
    → sum_below net.nodes (λ v. p v *ℤ excess net flow v) ≡ sum_below (arc_count net) (λ k. (p (arc_at net k).to -ℤ p (arc_at net k).from) *ℤ pos (slice_index flow k))
unfolding into out_of
exchange net flow p sound =
    let x : ℕ → ℤ = λ k. pos (slice_index flow k) in
    let to : ℕ → ℕ = λ k. (arc_at net k).to in
    let from : ℕ → ℕ = λ k. (arc_at net k).from in
    let split = sum_below-ext (arc_count net) (λ k. (p (to k) -ℤ p (from k)) *ℤ x k) (λ k. p (to k) *ℤ x k -ℤ p (from k) *ℤ x k) (λ k l. sub-mul (p (to k)) (p (from k)) (x k)) in
    let parts = sum_below-sub (arc_count net) (λ k. p (to k) *ℤ x k) (λ k. p (from k) *ℤ x k) in
    let ins = gathered (arc_count net) net.nodes p to x (λ k l. (sound.arcs k l).to) in
    let outs = gathered (arc_count net) net.nodes p from x (λ k l. (sound.arcs k l).from) in
    let nodes = sum_below-ext net.nodes (λ v. p v *ℤ excess net flow v) (λ v. p v *ℤ into net flow v -ℤ p v *ℤ out_of net flow v) (λ v l. mul-sub (p v) (into net flow v) (out_of net flow v)) in
    let apart = sum_below-sub net.nodes (λ v. p v *ℤ into net flow v) (λ v. p v *ℤ out_of net flow v) in
    omega (arith, ints, split, parts, ins, outs, nodes, apart)

times-zero : (c z : ℤ) → z ≡ pos 0 → c *ℤ z ≡ pos 0
times-zero c z e = ap (λ x. c *ℤ x) e ∙ omega (arith, ints)

-- weights come to nothing over a circulation
pub cancels : (net : Network) (flow : List ℕ) (p : ℕ → ℤ) → IsSound net → IsCirculation net flow
    → sum_below (arc_count net) (λ k. (p (arc_at net k).to -ℤ p (arc_at net k).from) *ℤ pos (slice_index flow k)) ≡ pos 0
cancels net flow p sound c =
    sym (exchange net flow p sound)
    ∙ sum_below-ext net.nodes (λ v. p v *ℤ excess net flow v) (λ v. pos 0)
    (λ v l. times-zero (p v) (excess net flow v) (let e : into net flow v ≡ out_of net flow v = c.balanced v l in omega (arith, ints)))
    ∙ sum_below-zero net.nodes

-- over a circulation the gaps come to nothing
pub gaps_cancel : (net : Network) (flow : List ℕ) (prices : List ℤ) → IsSound net → IsCirculation net flow
    → sum_below (arc_count net) (λ k. gap net prices k *ℤ pos (slice_index flow k)) ≡ pos 0
gaps_cancel net flow prices sound c = cancels net flow (λ v. price_at prices v) sound c
