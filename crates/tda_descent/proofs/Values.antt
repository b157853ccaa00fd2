-- What a flow costs, in numbers that aren't negative.
use Rattle.std.proofs.Common.{◌≡◌, ℕ, ◌+◌, ◌*◌, ◌<◌, ◌≤◌, ◌^◌, ℤ, pos, negsuc, ◌-ℤ◌, ◌*ℤ◌, ◌≤ℤ◌, List, length, get_or, to_z, of_z, FitsSigned, refl, sym, ap, ◌∙◌, subst, arith}
use Rattle.std.proofs.lemmas.Int.{ints, to_z-of_z}
use Rattle.std.specs.Int.{w128}
use Rattle.std.specs.Prelude.{nat_abs}
use Rattle.std.proofs.Math.Nat.{mul-le-mul}
use Rattle.tda_loss.specs.declared.Curve.{Curve}
use Rattle.tda_loss.specs.Curve.{IsWithin, value_of}
use Rattle.tda_loss.proofs.Laws.{value_of-within}
use Rattle.tda_flow.specs.Sum.{sum_below}
use Rattle.tda_flow.specs.declared.net.Term.{Term}
use Rattle.tda_flow.specs.Network.{Network, IsNetTerm, IsSound, arc_count, arc_at, terms_at, term_at}
use Rattle.tda_flow.specs.Flow.{term_cost, arc_cost, cost, IsCirculation}
use Rattle.tda_flow.proofs.Sums.{sum_step, sum_below-empty}

product : (w : ℕ) (v : ℤ) (n : ℕ) → pos 0 ≤ℤ v → v ≤ℤ pos n → w ≤ 2 ^ 24 → n ≤ 2 ^ 64 → (pos (w * nat_abs v) ≡ pos w *ℤ v) × (w * nat_abs v ≤ 2 ^ 88)
product w (pos k) n low high few most =
    let b : k ≤ 2 ^ 64 = omega (arith, ints, high) in
    (refl, omega (arith, mul-le-mul few b))
product w (negsuc k) n low high few most = absurd (omega (arith, ints, low))

-- the weight times the value, as the code multiplies them
pub term_is : (cv : Curve) (t : Term) (x w a : ℕ) (d v : ℤ) → IsNetTerm t → x ≤ 2 ^ 30 → w ≡ t.weight → d ≡ pos x -ℤ t.target → v ≡ value_of cv d → a ≡ nat_abs (to_z w128 (of_z w128 v))
    → (pos (w * a) ≡ term_cost (value_of cv) t x) × (w * a ≤ 2 ^ 88)
term_is cv t x w a d v ok few ew ed ev ea =
    let near : IsWithin (2 ^ 32) (pos x -ℤ t.target) = record { low = omega (arith, ints, ok.target.low, ok.target.high); high = omega (arith, ints, ok.target.low, ok.target.high) } in
    let b = value_of-within cv (2 ^ 32) (pos x -ℤ t.target) near in
    let p = product t.weight (value_of cv (pos x -ℤ t.target)) (2 ^ 32 * 2 ^ 32) b.0 b.1 ok.weight (omega arith) in
    let value_is : v ≡ value_of cv (pos x -ℤ t.target) = ev ∙ ap (value_of cv) ed in
    let fits : FitsSigned w128 v = rw value_is (omega (arith, ints, b.0, b.1)) in
    let same : w * a ≡ t.weight * nat_abs (value_of cv (pos x -ℤ t.target)) = rw (ea, to_z-of_z w128 v fits, value_is, ew) refl in
    (ap pos same ∙ p.0, subst (λ n. n ≤ 2 ^ 88) (sym same) p.1)

-- the sum over the first n terms
pub record IsArcSum (curve : ℤ → ℤ) (terms : List Term) (x n sum : ℕ) : Type 0 where
  pub is : pos sum ≡ sum_below n (λ j. term_cost curve (term_at terms j) x)
  pub few : sum ≤ n * 2 ^ 88

pub arc_none : (curve : ℤ → ℤ) (terms : List Term) (x : ℕ) → IsArcSum curve terms x 0 0
arc_none curve terms x = record { is = sym (sum_below-empty (λ j. term_cost curve (term_at terms j) x)); few = omega arith }

pub arc_more : (curve : ℤ → ℤ) (terms : List Term) (x n sum a : ℕ) → IsArcSum curve terms x n sum → pos a ≡ term_cost curve (term_at terms n) x → a ≤ 2 ^ 88
    → IsArcSum curve terms x (n + 1) (sum + a)
arc_more curve terms x n sum a h e few = record {
  is = sum_step n (λ j. term_cost curve (term_at terms j) x) sum a h.is e;
  few = omega (arith, h.few);
}

pub arc_all : (curve : ℤ → ℤ) (terms : List Term) (x n sum : ℕ) → IsArcSum curve terms x n sum → n ≡ length terms → pos sum ≡ arc_cost curve terms x
unfolding arc_cost
arc_all curve terms x n sum h e = h.is ∙ ap (λ m. sum_below m (λ j. term_cost curve (term_at terms j) x)) e

-- the sum over the first n arcs
pub record IsFlowSum (curve : ℤ → ℤ) (net : Network) (flow : List ℕ) (n sum : ℕ) : Type 0 where
  pub is : pos sum ≡ sum_below n (λ k. arc_cost curve (terms_at net k) (get_or flow k 0))
  pub few : sum ≤ n * 2 ^ 91

pub flow_none : (curve : ℤ → ℤ) (net : Network) (flow : List ℕ) → IsFlowSum curve net flow 0 0
flow_none curve net flow = record { is = sym (sum_below-empty (λ k. arc_cost curve (terms_at net k) (get_or flow k 0))); few = omega arith }

pub flow_more : (curve : ℤ → ℤ) (net : Network) (flow : List ℕ) (n sum a : ℕ) → IsFlowSum curve net flow n sum → pos a ≡ arc_cost curve (terms_at net n) (get_or flow n 0) → a ≤ 2 ^ 91
    → IsFlowSum curve net flow (n + 1) (sum + a)
flow_more curve net flow n sum a h e few = record {
  is = sum_step n (λ k. arc_cost curve (terms_at net k) (get_or flow k 0)) sum a h.is e;
  few = omega (arith, h.few);
}

pub flow_all : (curve : ℤ → ℤ) (net : Network) (flow : List ℕ) (n sum : ℕ) → IsFlowSum curve net flow n sum → n ≡ arc_count net → pos sum ≡ cost curve net flow
unfolding cost
flow_all curve net flow n sum h e = h.is ∙ ap (λ m. sum_below m (λ k. arc_cost curve (terms_at net k) (get_or flow k 0))) e

-- a circulation of a sound net is small
pub flow_few : (net : Network) (flow : List ℕ) (k : ℕ) → IsSound net → IsCirculation net flow → k < arc_count net → get_or flow k 0 ≤ 2 ^ 30
flow_few net flow k sound circulates within =
    let up : get_or flow k 0 ≤ (arc_at net k).high = (circulates.within k within).1 in
    omega (arith, (sound.arcs k within).high)
