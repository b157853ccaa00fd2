-- Circulations of the same cost are certified by the same prices.
use Rattle.std.proofs.Common.{◌≡◌, ℕ, zero, suc, ◌+◌, ◌-◌, ◌<◌, ℤ, pos, ◌-ℤ◌, ◌*ℤ◌, ◌≤ℤ◌, ◌<ℤ◌, subst, List, slice_index, inl, inr, arith}
use Rattle.std.proofs.lemmas.Int.{ints}
use Rattle.std.proofs.lemmas.Bool.{cases_lt}
use Rattle.tda_flow.specs.Sum.{sum_below}
use Rattle.tda_flow.proofs.Sums.{sum_below-le, sum_below-sub}
use Rattle.tda_flow.specs.Network.{Network, arc_count, terms_at, IsSound}
use Rattle.tda_loss.specs.Curve.{IsConvex}
use Rattle.tda_flow.specs.Flow.{IsCirculation, arc_cost, cost}
use Rattle.tda_flow.specs.Certificate.{gap, IsCertified}
use Rattle.tda_flow.proofs.Exchange.{gaps_cancel}
use Rattle.tda_flow.proofs.Least.{reduced, arc_least, times-more, times-less}

-- numbers that are at least others, with the same sum, are the same
pub same_terms : (n : ℕ) (f g : ℕ → ℤ) → ((k : ℕ) → k < n → f k ≤ℤ g k) → sum_below n g ≤ℤ sum_below n f → (k : ℕ) → k < n → g k ≤ℤ f k
unfolding sum_below
same_terms zero f g h e k l = absurd (omega arith)
same_terms (suc n) f g h e k l =
    elim (cases_lt k n) [
      | inl m ↦ same_terms n f g (λ j i. h j (omega arith)) (omega (arith, ints, h n (omega arith))) k m
      | inr m ↦
          let i : n ≡ k = omega arith in
          subst (λ z. g z ≤ℤ f z) i (omega (arith, ints, sum_below-le n f g (λ j m'. h j (omega arith))))
    ]

≤ℤ_chain : (a b c : ℤ) → a ≤ℤ b → b ≤ℤ c → a ≤ℤ c
≤ℤ_chain a b c h i = omega (arith, ints)

pays_up : (a b g : ℤ) (x : ℕ) → (a -ℤ g *ℤ pos x) ≤ℤ (b -ℤ g *ℤ pos (x + 1)) → (b -ℤ a) <ℤ g → ⊥
pays_up a b g x h bad = omega (arith, ints, times-more g x)

pays_down : (a b g : ℤ) (x : ℕ) → 0 < x → (a -ℤ g *ℤ pos x) ≤ℤ (b -ℤ g *ℤ pos (x - 1)) → g <ℤ (a -ℤ b) → ⊥
pays_down a b g x p h bad = omega (arith, ints, times-less g x p)

-- certified, at the same cost
pub same : (curve : ℤ → ℤ) → IsConvex curve → (net : Network) → IsSound net → (flow other : List ℕ) (prices : List ℤ)
    → IsCirculation net flow → IsCertified curve net flow prices → IsCirculation net other → cost curve net other ≡ cost curve net flow
    → (k : ℕ) → k < arc_count net
    → reduced curve (terms_at net k) (gap net prices k) (slice_index other k) ≤ℤ reduced curve (terms_at net k) (gap net prices k) (slice_index flow k)
unfolding cost
same curve h net sound flow other prices c cert o e =
    let n : ℕ = arc_count net in
    let g : ℕ → ℤ = λ k. gap net prices k in
    let mine : ℕ → ℤ = λ k. arc_cost curve (terms_at net k) (slice_index flow k) in
    let theirs : ℕ → ℤ = λ k. arc_cost curve (terms_at net k) (slice_index other k) in
    same_terms n (λ k. mine k -ℤ g k *ℤ pos (slice_index flow k)) (λ k. theirs k -ℤ g k *ℤ pos (slice_index other k))
    (λ k l. arc_least curve h net flow prices k (cert k l).0 (cert k l).1 (slice_index other k) (o.within k l).0 (o.within k l).1)
    (omega (
      arith,
      ints,
      e,
      sum_below-sub n mine (λ k. g k *ℤ pos (slice_index flow k)),
      sum_below-sub n theirs (λ k. g k *ℤ pos (slice_index other k)),
      gaps_cancel net flow prices sound c,
      gaps_cancel net other prices sound o,
    ))

-- the other is certified too
pub same_certified : (curve : ℤ → ℤ) → IsConvex curve → (net : Network) → IsSound net → (flow other : List ℕ) (prices : List ℤ)
    → IsCirculation net flow → IsCertified curve net flow prices → IsCirculation net other → cost curve net other ≡ cost curve net flow
    → IsCertified curve net other prices
same_certified curve h net sound flow other prices c cert o e k l =
    let y : ℕ = slice_index other k in
    let top = same curve h net sound flow other prices c cert o e k l in (
      λ bad.
          let less = arc_least curve h net flow prices k (cert k l).0 (cert k l).1 (y + 1) (let w = o.within k l in omega arith) (let b = bad.0 in omega arith) in
          pays_up _ _ (gap net prices k) y (≤ℤ_chain _ _ _ top less) bad.1,
      λ bad.
          let less = arc_least curve h net flow prices k (cert k l).0 (cert k l).1 (y - 1) (let b = bad.0 in omega arith) (let w = o.within k l in omega arith) in
          pays_down _ _ (gap net prices k) y (let b = bad.0 in omega arith) (≤ℤ_chain _ _ _ top less) bad.1,
    )
