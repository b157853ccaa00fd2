-- A sequence that rises by no less at each step is least where neither neighbor is less.
use Rattle.std.proofs.Common.{◌≡◌, ℕ, zero, suc, ◌+◌, ◌-◌, ◌<◌, ◌≤◌, ℤ, ◌+ℤ◌, ◌≤ℤ◌, sym, subst, inl, inr, arith, add-zero, add-suc}
use Rattle.std.proofs.lemmas.Int.{ints}
use Rattle.std.proofs.lemmas.Bool.{cases_order}

abbrev pub Bends : (ℕ → ℤ) → Type 0
Bends c = (n : ℕ) → (c (suc n) +ℤ c (suc n)) ≤ℤ (c n +ℤ c (suc (suc n)))

climbs : (c : ℕ → ℤ) → Bends c → (n k : ℕ) → c n ≤ℤ c (suc n) → c (n + k) ≤ℤ c (suc (n + k))
climbs c b n zero h = rw add-zero h
climbs c b n (suc k) h = rw add-suc (omega (arith, ints, climbs c b n k h, b (n + k)))

pub least_up : (c : ℕ → ℤ) → Bends c → (n k : ℕ) → c n ≤ℤ c (suc n) → c n ≤ℤ c (n + k)
least_up c b n zero h = rw add-zero (omega (arith, ints))
least_up c b n (suc k) h = rw add-suc (omega (arith, ints, least_up c b n k h, climbs c b n k h))

sinks : (c : ℕ → ℤ) → Bends c → (n k : ℕ) → c (suc (n + k)) ≤ℤ c (n + k) → c (suc n) ≤ℤ c n
sinks c b n zero h = rw add-zero at h
sinks c b n (suc k) h =
    let g : c (suc (suc (n + k))) ≤ℤ c (suc (n + k)) = rw add-suc at h in
    sinks c b n k (omega (arith, ints, b (n + k)))

pub least_down : (c : ℕ → ℤ) → Bends c → (n k : ℕ) → c (suc (n + k)) ≤ℤ c (n + k) → c (suc (n + k)) ≤ℤ c n
least_down c b n zero h = rw add-zero (rw add-zero at h)
least_down c b n (suc k) h =
    let g : c (suc (suc (n + k))) ≤ℤ c (suc (n + k)) = rw add-suc at h in
    rw add-suc (omega (arith, ints, least_down c b n k (omega (arith, ints, b (n + k)))))

-- among the numbers from low to high
pub least_within : (c : ℕ → ℤ) → Bends c → (low high x : ℕ) → (x < high → c x ≤ℤ c (x + 1)) → (low < x → c x ≤ℤ c (x - 1))
    → (y : ℕ) → low ≤ y → y ≤ high → c x ≤ℤ c y
least_within c b low high x up down y l h =
    elim (cases_order x y) [
      | inl e ↦ rw e (omega (arith, ints))
      | inr o ↦
          elim o [
            | inl lt ↦
                let e : x + 1 ≡ suc x = omega arith in
                let f : x + (y - x) ≡ y = omega arith in
                subst (λ z. c x ≤ℤ c z) f (least_up c b x (y - x) (subst (λ z. c x ≤ℤ c z) e (up (omega arith))))
            | inr gt ↦
                let e : x ≡ suc (y + (x - suc y)) = omega arith in
                let f : x - 1 ≡ y + (x - suc y) = omega arith in
                let first : c x ≤ℤ c (y + (x - suc y)) = subst (λ z. c x ≤ℤ c z) f (down (omega arith)) in
                let second : c (suc (y + (x - suc y))) ≤ℤ c (y + (x - suc y)) = subst (λ z. c z ≤ℤ c (y + (x - suc y))) e first in
                subst (λ z. c z ≤ℤ c y) (sym e) (least_down c b y (x - suc y) second)
          ]
    ]
