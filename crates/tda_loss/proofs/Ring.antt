-- Laws of whole numbers.
use Rattle.std.proofs.Common.{◌≡◌, ℕ, ◌*◌, ℤ, pos, ◌+ℤ◌, ◌-ℤ◌, ◌*ℤ◌, neg_ℤ, ◌≤ℤ◌, refl, ap, ◌∙◌, arith, Bool, true, false, cond}
use Rattle.std.proofs.lemmas.Int.{ints}
use Rattle.std.proofs.Math.Nat.{mul-le-mul_left}
use borrow.Author.Differences.{up, down, sum_is_lem, neg_is, product_is, le_out}

pub add-mul : (a b c : ℤ) → (a +ℤ b) *ℤ c ≡ a *ℤ c +ℤ b *ℤ c
add-mul a b c =
    let e = sum_is_lem a b in
    omega (arith, ints, ap (λ n. n * up c) e, ap (λ n. n * down c) e)

pub mul-add : (a b c : ℤ) → a *ℤ (b +ℤ c) ≡ a *ℤ b +ℤ a *ℤ c
mul-add a b c =
    let e = sum_is_lem b c in
    omega (arith, ints, ap (λ n. up a * n) e, ap (λ n. down a * n) e)

pub mul-comm : (a b : ℤ) → a *ℤ b ≡ b *ℤ a
mul-comm a b = omega (arith, ints)

pub mul-assoc : (a b c : ℤ) → (a *ℤ b) *ℤ c ≡ a *ℤ (b *ℤ c)
mul-assoc a b c =
    let p = product_is a b in
    let q = product_is b c in
    omega (
      arith,
      ints,
      ap (λ n. n * up c) p.0,
      ap (λ n. n * down c) p.0,
      ap (λ n. n * up c) p.1,
      ap (λ n. n * down c) p.1,
      ap (λ n. up a * n) q.0,
      ap (λ n. down a * n) q.0,
      ap (λ n. up a * n) q.1,
      ap (λ n. down a * n) q.1,
    )

pub neg-mul : (a b : ℤ) → neg_ℤ a *ℤ b ≡ neg_ℤ (a *ℤ b)
neg-mul a b =
    let e = neg_is a in
    omega (arith, ints, ap (λ n. n * up b) e.0, ap (λ n. n * down b) e.0, ap (λ n. n * up b) e.1, ap (λ n. n * down b) e.1)

pub sub-mul : (a b c : ℤ) → (a -ℤ b) *ℤ c ≡ a *ℤ c -ℤ b *ℤ c
sub-mul a b c = omega (arith, ints, add-mul a (neg_ℤ b) c, neg-mul b c)

pub mul-sub : (a b c : ℤ) → a *ℤ (b -ℤ c) ≡ a *ℤ b -ℤ a *ℤ c
mul-sub a b c = mul-comm a (b -ℤ c) ∙ sub-mul b c a ∙ (rw (mul-comm b a, mul-comm c a) refl)

-- a number that is not negative keeps an order
pub pos-mul-le : (n : ℕ) (a b : ℤ) → a ≤ℤ b → (pos n *ℤ a) ≤ℤ (pos n *ℤ b)
pos-mul-le n a b h = omega (arith, ints, mul-le-mul_left n (le_out a b h))

pub mul-cond : (c x : ℤ) (b : Bool) → c *ℤ cond b x (pos 0) ≡ cond b (c *ℤ x) (pos 0)
mul-cond c x true = refl
mul-cond c x false = omega (arith, ints)
