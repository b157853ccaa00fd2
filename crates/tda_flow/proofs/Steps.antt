-- What one more unit costs: at a term, and at the first terms of an arc.
use Rattle.std.proofs.Common.{◌≡◌, ℕ, suc, ◌+◌, ◌*◌, ◌≤◌, ℤ, pos, negsuc, ◌+ℤ◌, ◌-ℤ◌, ◌*ℤ◌, refl, ◌∙◌, List, length, arith, ◌^◌, to_z, of_z, FitsSigned}
use Rattle.std.proofs.lemmas.Int.{ints, to_z-of_z}
use Rattle.std.proofs.Math.Nat.{mul-le-mul}
use Rattle.std.specs.Int.{w128}
use Rattle.tda_loss.specs.declared.Curve.{Curve}
use Rattle.tda_loss.specs.Curve.{IsWithin, value_of, step}
use Rattle.tda_loss.proofs.Laws.{IsCurve-value_of, step-within}
use Rattle.tda_loss.proofs.Ring.{mul-sub}
use Rattle.tda_flow.specs.Sum.{sum_below}
use Rattle.tda_flow.specs.declared.net.Term.{Term}
use Rattle.tda_flow.specs.Network.{term_at, IsNetTerm}
use Rattle.tda_flow.specs.Flow.{term_cost, arc_cost}
use Rattle.tda_flow.proofs.Sums.{sum_below-sub, sum_below-more}

-- what one unit more than x costs at term j
abbrev pub step_at : (ℤ → ℤ) → List Term → ℕ → ℕ → ℤ
step_at curve terms x j = term_cost curve (term_at terms j) (x + 1) -ℤ term_cost curve (term_at terms j) x

product_within : (m n w : ℕ) (z : ℤ) → w ≤ m → IsWithin n z → IsWithin (m * n) (pos w *ℤ z)
product_within m n w (pos k) l h =
    let b : k ≤ n = omega (arith, ints, h.high) in
    record { low = omega (arith, ints); high = omega (arith, ints, mul-le-mul l b) }
product_within m n w (negsuc k) l h =
    let b : suc k ≤ n = omega (arith, ints, h.low) in
    record { low = omega (arith, ints, mul-le-mul l b); high = omega (arith, ints) }

-- the weight times the step of the curve, as the code multiplies them: the product fits, is what one unit more costs, and is small
pub term_product : (cv : Curve) (t : Term) (x : ℕ) (w d r : ℤ) → IsNetTerm t → x ≤ 2 ^ 30 → w ≡ pos t.weight → d ≡ pos x -ℤ t.target → r ≡ step (value_of cv) d
    → FitsSigned w128 (to_z w128 (of_z w128 w) *ℤ to_z w128 (of_z w128 r))
    × (to_z w128 (of_z w128 (to_z w128 (of_z w128 w) *ℤ to_z w128 (of_z w128 r))) ≡ term_cost (value_of cv) t (x + 1) -ℤ term_cost (value_of cv) t x)
    × IsWithin (2 ^ 58) (term_cost (value_of cv) t (x + 1) -ℤ term_cost (value_of cv) t x)
term_product cv t x w d r ok few ew ed er =
    let f : ℤ → ℤ = value_of cv in
    let near : IsWithin (2 ^ 32) d = record { low = omega (arith, ints, ok.target.low, ok.target.high); high = omega (arith, ints, ok.target.low, ok.target.high) } in
    let b = step-within f (2 ^ 32) d (IsCurve-value_of cv) near in
    let weight_fits : FitsSigned w128 w = omega (arith, ints, ok.weight) in
    let step_fits : FitsSigned w128 r = omega (arith, ints, b.low, b.high) in
    let p = product_within (2 ^ 24) (2 * 2 ^ 32 + 1) t.weight (step f d) ok.weight b in
    let next : d +ℤ pos 1 ≡ pos (x + 1) -ℤ t.target = omega (arith, ints) in
    let apart : pos t.weight *ℤ step f d ≡ term_cost f t (x + 1) -ℤ term_cost f t x =
    mul-sub (pos t.weight) (f (d +ℤ pos 1)) (f d) ∙ rw (next, ed) refl in
    let small : IsWithin (2 ^ 58) (term_cost f t (x + 1) -ℤ term_cost f t x) = record { low = omega (arith, ints, apart, p.low); high = omega (arith, ints, apart, p.high) } in
    let product : to_z w128 (of_z w128 w) *ℤ to_z w128 (of_z w128 r) ≡ term_cost f t (x + 1) -ℤ term_cost f t x =
    rw (to_z-of_z w128 w weight_fits, to_z-of_z w128 r step_fits, ew, er) apart in
    let fits : FitsSigned w128 (term_cost f t (x + 1) -ℤ term_cost f t x) = omega (arith, ints, small.low, small.high) in
    (rw product fits, rw product (to_z-of_z w128 _ fits), small)

-- the sum of the first n steps, and how large it is
pub record IsStepped (curve : ℤ → ℤ) (terms : List Term) (x n : ℕ) (sum : ℤ) : Type 0 where
  pub is : sum ≡ sum_below n (step_at curve terms x)
  pub near : IsWithin (n * 2 ^ 58) sum

pub stepped-none : (curve : ℤ → ℤ) (terms : List Term) (x : ℕ) → IsStepped curve terms x 0 (pos 0)
unfolding sum_below
stepped-none curve terms x = record { is = refl; near = record { low = omega (arith, ints); high = omega (arith, ints) } }

pub stepped-more : (curve : ℤ → ℤ) (terms : List Term) (x n : ℕ) (sum more : ℤ) → IsStepped curve terms x n sum → more ≡ step_at curve terms x n → IsWithin (2 ^ 58) more
    → IsStepped curve terms x (n + 1) (sum +ℤ more)
stepped-more curve terms x n sum more h e near = record {
  is = omega (arith, ints, h.is, e, sum_below-more n (step_at curve terms x));
  near = record { low = omega (arith, ints, h.near.low, near.low); high = omega (arith, ints, h.near.high, near.high) };
}

pub stepped-all : (curve : ℤ → ℤ) (terms : List Term) (x n : ℕ) (sum : ℤ) → IsStepped curve terms x n sum → n ≡ length terms
    → sum ≡ arc_cost curve terms (x + 1) -ℤ arc_cost curve terms x
unfolding arc_cost
stepped-all curve terms x n sum h e = h.is ∙ rw e (sum_below-sub (length terms) _ _)
