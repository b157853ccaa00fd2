-- Sums over the indices below n.
use Rattle.std.proofs.Common.{◌≡◌, ℕ, zero, suc, ◌+◌, ◌<◌, ◌≤◌, ℤ, pos, ◌+ℤ◌, ◌-ℤ◌, ◌*ℤ◌, ◌≤ℤ◌, refl, sym, ap, arith, false, cond, eqb, inl, inr}
use Rattle.std.proofs.lemmas.Int.{ints}
use Rattle.std.proofs.lemmas.Bool.{cases_eq, eq-eqb, ne_eqb}
use Rattle.tda_flow.specs.Sum.{sum_below}
use Rattle.tda_loss.proofs.Ring.{mul-add}

pub sum_below-ext : (n : ℕ) (f g : ℕ → ℤ) → ((k : ℕ) → k < n → f k ≡ g k) → sum_below n f ≡ sum_below n g
unfolding sum_below
sum_below-ext zero f g h = refl
sum_below-ext (suc n) f g h = omega (arith, ints, sum_below-ext n f g (λ k l. h k (omega arith)), h n (omega arith))

pub sum_below-le : (n : ℕ) (f g : ℕ → ℤ) → ((k : ℕ) → k < n → f k ≤ℤ g k) → sum_below n f ≤ℤ sum_below n g
unfolding sum_below
sum_below-le zero f g h = omega (arith, ints)
sum_below-le (suc n) f g h = omega (arith, ints, sum_below-le n f g (λ k l. h k (omega arith)), h n (omega arith))

pub sum_below-add : (n : ℕ) (f g : ℕ → ℤ) → sum_below n (λ k. f k +ℤ g k) ≡ sum_below n f +ℤ sum_below n g
unfolding sum_below
sum_below-add zero f g = omega (arith, ints)
sum_below-add (suc n) f g = omega (arith, ints, sum_below-add n f g)

pub sum_below-sub : (n : ℕ) (f g : ℕ → ℤ) → sum_below n (λ k. f k -ℤ g k) ≡ sum_below n f -ℤ sum_below n g
unfolding sum_below
sum_below-sub zero f g = omega (arith, ints)
sum_below-sub (suc n) f g = omega (arith, ints, sum_below-sub n f g)

pub sum_below-zero : (n : ℕ) → sum_below n (λ k. pos 0) ≡ pos 0
unfolding sum_below
sum_below-zero zero = refl
sum_below-zero (suc n) = omega (arith, ints, sum_below-zero n)

pub sum_below-mul : (n : ℕ) (c : ℤ) (f : ℕ → ℤ) → sum_below n (λ k. c *ℤ f k) ≡ c *ℤ sum_below n f
unfolding sum_below
sum_below-mul zero c f = omega (arith, ints)
sum_below-mul (suc n) c f = omega (arith, ints, sum_below-mul n c f, mul-add c (sum_below n f) (f n))

pub sum_below-swap : (m n : ℕ) (f : ℕ → ℕ → ℤ) → sum_below m (λ i. sum_below n (λ j. f i j)) ≡ sum_below n (λ j. sum_below m (λ i. f i j))
unfolding sum_below
sum_below-swap zero n f = sym (sum_below-zero n)
sum_below-swap (suc m) n f =
    omega (arith, ints, sum_below-swap m n f, sum_below-add n (λ j. sum_below m (λ i. f i j)) (λ j. f m j))

-- a sum with one term at most
pub sum_below-none : (n : ℕ) (w : ℕ) (f : ℕ → ℤ) → n ≤ w → sum_below n (λ v. cond (eqb w v) (f v) (pos 0)) ≡ pos 0
unfolding sum_below
sum_below-none zero w f h = refl
sum_below-none (suc n) w f h =
    let e : eqb w n ≡ false = ne_eqb w n (λ e. omega arith) in
    rw e (omega (arith, ints, sum_below-none n w f (omega arith)))

pub sum_below-point : (n : ℕ) (w : ℕ) (f : ℕ → ℤ) → w < n → sum_below n (λ v. cond (eqb w v) (f v) (pos 0)) ≡ f w
unfolding sum_below
sum_below-point zero w f h = absurd (omega arith)
sum_below-point (suc n) w f h =
    elim (cases_eq w n) [
      | inl e ↦ rw (eq-eqb w n e) (omega (arith, ints, sum_below-none n w f (omega arith), ap f e))
      | inr ne ↦ rw (ne_eqb w n ne) (omega (arith, ints, sum_below-point n w f (omega arith)))
    ]

-- a loop's step
pub sum_below-empty : (f : ℕ → ℤ) → sum_below 0 f ≡ pos 0
unfolding sum_below
sum_below-empty f = refl

pub sum_below-more : (n : ℕ) (f : ℕ → ℤ) → sum_below (n + 1) f ≡ sum_below n f +ℤ f n
unfolding sum_below
sum_below-more n f = let e : n + 1 ≡ suc n = omega arith in rw e refl

pub sum_step : (n : ℕ) (f : ℕ → ℤ) (s a : ℕ) → pos s ≡ sum_below n f → pos a ≡ f n → pos (s + a) ≡ sum_below (n + 1) f
sum_step n f s a e h = omega (arith, ints, sum_below-more n f)
