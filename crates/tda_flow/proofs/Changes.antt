-- Sums over the arcs, where the flow of one arc changes.
use Rattle.std.proofs.Common.{◌≡◌, ℕ, zero, suc, ◌+◌, ◌-◌, ◌<◌, ◌≤◌, ℤ, pos, ◌+ℤ◌, ◌-ℤ◌, Bool, true, false, cond, ap, subst, sym, ◌∙◌, List, length, slice_index, set, inl, inr, arith, get_or-set_other, get_or-set_same}
use Rattle.std.proofs.lemmas.Int.{ints}
use Rattle.std.proofs.lemmas.Bool.{cases_lt}
use Rattle.tda_flow.specs.Sum.{sum_below}
use Rattle.tda_flow.proofs.Sums.{sum_below-ext}

-- a sum with one term changed
pub sum_below-change : (n k : ℕ) (f g : ℕ → ℤ) → k < n → ((j : ℕ) → j < n → (j ≡ k → ⊥) → f j ≡ g j) → sum_below n g ≡ sum_below n f +ℤ g k -ℤ f k
unfolding sum_below
sum_below-change zero k f g l h = absurd (omega arith)
sum_below-change (suc n) k f g l h =
    elim (cases_lt k n) [
      | inl m ↦ omega (arith, ints, sum_below-change n k f g m (λ j i. h j (omega arith)), h n (omega arith) (λ e. omega arith))
      | inr m ↦
          let e : n ≡ k = omega arith in
          let s : sum_below n f ≡ sum_below n g = sum_below-ext n f g (λ j i. h j (omega arith) (λ q. omega arith)) in
          subst (λ z. sum_below n g +ℤ g n ≡ sum_below n f +ℤ f n +ℤ g z -ℤ f z) e (omega (arith, ints))
    ]

-- the flow of the arc that changes, and of another one
pub flow-here : (flow : List ℕ) (k x : ℕ) → k < length flow → slice_index (set flow k x) k ≡ x
flow-here flow k x l = get_or-set_same flow k x 0 l

pub flow-other : (flow : List ℕ) (k j x : ℕ) → (j ≡ k → ⊥) → slice_index (set flow k x) j ≡ slice_index flow j
flow-other flow k j x ne = get_or-set_other flow k j x 0 ne

-- a sum over the flows with one of them changed
pub sum-set : (m : ℕ) (f : ℕ → ℕ → ℤ) (flow : List ℕ) (k x : ℕ) → k < m → length flow ≡ m
    → sum_below m (λ j. f j (slice_index (set flow k x) j)) ≡ sum_below m (λ j. f j (slice_index flow j)) +ℤ f k x -ℤ f k (slice_index flow k)
sum-set m f flow k x l e =
    let same : slice_index (set flow k x) k ≡ x = flow-here flow k x (omega arith) in
    sum_below-change m k (λ j. f j (slice_index flow j)) (λ j. f j (slice_index (set flow k x) j)) l
    (λ j i ne. ap (f j) (sym (flow-other flow k j x ne)))
    ∙ ap (λ z. sum_below m (λ j. f j (slice_index flow j)) +ℤ f k z -ℤ f k (slice_index flow k)) same

pub cond-add : (b : Bool) (x d : ℕ) → cond b (pos (x + d)) (pos 0) ≡ cond b (pos x) (pos 0) +ℤ cond b (pos d) (pos 0)
cond-add true x d = omega (arith, ints)
cond-add false x d = omega (arith, ints)

pub cond-sub : (b : Bool) (x d : ℕ) → d ≤ x → cond b (pos (x - d)) (pos 0) ≡ cond b (pos x) (pos 0) -ℤ cond b (pos d) (pos 0)
cond-sub true x d l = omega (arith, ints)
cond-sub false x d l = omega (arith, ints)
