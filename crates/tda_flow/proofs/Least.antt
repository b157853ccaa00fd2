-- Certified circulations are least.
use Rattle.std.proofs.Common.{◌≡◌, ℕ, suc, ◌+◌, ◌-◌, ◌<◌, ◌≤◌, ℤ, pos, ◌+ℤ◌, ◌-ℤ◌, ◌*ℤ◌, ◌≤ℤ◌, ap, ◌∙◌, List, length, slice_index, arith}
use Rattle.std.proofs.lemmas.Int.{ints, by_lt_z}
use Rattle.tda_loss.proofs.Ring.{mul-add, pos-mul-le}
use Rattle.tda_flow.proofs.Sums.{sum_below-add, sum_below-sub, sum_below-le}
use Rattle.tda_flow.specs.declared.net.Term.{Term}
use Rattle.tda_flow.specs.Network.{Network, arc_count, arc_at, terms_at, term_at, IsSound}
use Rattle.tda_loss.specs.Curve.{IsConvex}
use Rattle.tda_flow.specs.Flow.{IsCirculation, IsLeast, term_cost, arc_cost, cost}
use Rattle.tda_flow.specs.Certificate.{gap, IsBadUp, IsBadDown, IsCertified}
use Rattle.tda_flow.proofs.Convex.{Bends, least_within}
use Rattle.tda_flow.proofs.Exchange.{gaps_cancel}

term_bends : (curve : ℤ → ℤ) → IsConvex curve → (t : Term) → Bends (term_cost curve t)
term_bends curve h t n =
    let d : ℤ = pos n -ℤ t.target in
    let e : d +ℤ pos 1 ≡ pos (suc n) -ℤ t.target = omega (arith, ints) in
    let f : d +ℤ pos 1 +ℤ pos 1 ≡ pos (suc (suc n)) -ℤ t.target = omega (arith, ints) in
    let back : d +ℤ pos 1 -ℤ pos 1 ≡ d = omega (arith, ints) in
    let rises = rw back at (h (d +ℤ pos 1)) in
    let bend : (curve (d +ℤ pos 1) +ℤ curve (d +ℤ pos 1)) ≤ℤ (curve d +ℤ curve (d +ℤ pos 1 +ℤ pos 1)) = omega (arith, ints, rises) in
    let weighed = pos-mul-le t.weight _ _ bend in
    let left = mul-add (pos t.weight) (curve (d +ℤ pos 1)) (curve (d +ℤ pos 1)) in
    let right = mul-add (pos t.weight) (curve d) (curve (d +ℤ pos 1 +ℤ pos 1)) in
    rw (← e, ← f) (omega (arith, ints, weighed, left, right))

pub arc_cost-bends : (curve : ℤ → ℤ) → IsConvex curve → (terms : List Term) → Bends (arc_cost curve terms)
unfolding arc_cost
arc_cost-bends curve h terms n =
    let at : ℕ → ℕ → ℤ = λ x j. term_cost curve (term_at terms j) x in
    let m : ℕ = length terms in
    omega (
      arith,
      ints,
      sum_below-add m (at (suc n)) (at (suc n)),
      sum_below-add m (at n) (at (suc (suc n))),
      sum_below-le m (λ j. at (suc n) j +ℤ at (suc n) j) (λ j. at n j +ℤ at (suc (suc n)) j) (λ j l. term_bends curve h (term_at terms j) n),
    )

-- what x units cost, less what they bring at a gap
abbrev pub reduced : (ℤ → ℤ) → List Term → ℤ → ℕ → ℤ
reduced curve terms g x = arc_cost curve terms x -ℤ g *ℤ pos x

times-suc : (g : ℤ) (n : ℕ) → g *ℤ pos (suc n) ≡ g *ℤ pos n +ℤ g
times-suc g n = omega (arith, ints)

pub times-more : (g : ℤ) (n : ℕ) → g *ℤ pos (n + 1) ≡ g *ℤ pos n +ℤ g
times-more g n = omega (arith, ints)

pub times-less : (g : ℤ) (n : ℕ) → 0 < n → g *ℤ pos n ≡ g *ℤ pos (n - 1) +ℤ g
times-less g n h = let e : n ≡ suc (n - 1) = omega arith in ap (λ z. g *ℤ pos z) e ∙ times-suc g (n - 1)

pub reduced-bends : (curve : ℤ → ℤ) → IsConvex curve → (terms : List Term) (g : ℤ) → Bends (reduced curve terms g)
reduced-bends curve h terms g n =
    omega (arith, ints, arc_cost-bends curve h terms n, times-suc g n, times-suc g (suc n))

up_less : (a b g : ℤ) (x : ℕ) → g ≤ℤ (b -ℤ a) → (a -ℤ g *ℤ pos x) ≤ℤ (b -ℤ g *ℤ pos (x + 1))
up_less a b g x h = omega (arith, ints, times-more g x)

down_less : (a b g : ℤ) (x : ℕ) → 0 < x → (a -ℤ b) ≤ℤ g → (a -ℤ g *ℤ pos x) ≤ℤ (b -ℤ g *ℤ pos (x - 1))
down_less a b g x p h = omega (arith, ints, times-less g x p)

-- the flow of an arc that is not bad is least there, by its reduced cost
pub arc_least : (curve : ℤ → ℤ) → IsConvex curve → (net : Network) (flow : List ℕ) (prices : List ℤ) (k : ℕ)
    → (¬ (IsBadUp curve net flow prices k)) → (¬ (IsBadDown curve net flow prices k))
    → (y : ℕ) → (arc_at net k).low ≤ y → y ≤ (arc_at net k).high
    → reduced curve (terms_at net k) (gap net prices k) (slice_index flow k) ≤ℤ reduced curve (terms_at net k) (gap net prices k) y
arc_least curve h net flow prices k nu nd =
    let g : ℤ = gap net prices k in
    let ts : List Term = terms_at net k in
    let x : ℕ = slice_index flow k in
    least_within (reduced curve ts g) (reduced-bends curve h ts g) (arc_at net k).low (arc_at net k).high x
    (λ lt. by_lt_z _ g (λ bad. absurd (nu (lt, bad))) (λ ok. up_less _ _ g x ok))
    (λ lt. by_lt_z g _ (λ bad. absurd (nd (lt, bad))) (λ ok. down_less _ _ g x (omega arith) ok))

-- certified circulations are least
pub least : (curve : ℤ → ℤ) → IsConvex curve → (net : Network) → IsSound net → (flow : List ℕ) (prices : List ℤ)
    → IsCirculation net flow → IsCertified curve net flow prices → IsLeast curve net flow
unfolding cost
least curve h net sound flow prices c cert other o =
    let n : ℕ = arc_count net in
    let g : ℕ → ℤ = λ k. gap net prices k in
    let mine : ℕ → ℤ = λ k. arc_cost curve (terms_at net k) (slice_index flow k) in
    let theirs : ℕ → ℤ = λ k. arc_cost curve (terms_at net k) (slice_index other k) in
    let each = sum_below-le n (λ k. mine k -ℤ g k *ℤ pos (slice_index flow k)) (λ k. theirs k -ℤ g k *ℤ pos (slice_index other k))
    (λ k l. arc_least curve h net flow prices k (cert k l).0 (cert k l).1 (slice_index other k) (o.within k l).0 (o.within k l).1) in
    omega (
      arith,
      ints,
      each,
      sum_below-sub n mine (λ k. g k *ℤ pos (slice_index flow k)),
      sum_below-sub n theirs (λ k. g k *ℤ pos (slice_index other k)),
      gaps_cancel net flow prices sound c,
      gaps_cancel net other prices sound o,
    )
