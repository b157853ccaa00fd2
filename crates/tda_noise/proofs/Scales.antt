-- Scales of Gaussian numbers, and that no product of theirs passes 128 bits.
use Rattle.std.proofs.Common.{ℕ, zero, suc, ◌≡◌, ◌+◌, ◌*◌, ◌/◌, ◌-◌, ◌<◌, ◌≤◌, ◌^◌, ◌⊎◌, inl, inr, arith, ◌∙◌, ap, sym, subst, pos, nat_abs, ◌-ℤ◌}
use Rattle.std.proofs.Math.Nat.{mul-le-mul_left, mul-le-mul_right, pow-succ', pow-zero, mul-one}
use Rattle.std.proofs.lemmas.Int.{ints}
use Rattle.std.proofs.lemmas.Bool.{cases_lt}
use Rattle.std.specs.Int.{abs_diff}
use Rattle.tda_noise.specs.Draws.{IsScale}

pub square_is : (x : ℕ) → x ^ 2 ≡ x * x
square_is x =
    let two : x ^ 2 ≡ x * x ^ 1 = pow-succ' x 1 in
    let one : x ^ 1 ≡ x * x ^ 0 = pow-succ' x 0 in
    let none : x ^ 0 ≡ 1 = pow-zero x in
    two ∙ ap (λ y. x * y) (one ∙ ap (λ y. x * y) none ∙ mul-one x)

-- (k + 1)² is at most 2 k² + 2
square_next : (k : ℕ) → suc k * suc k ≤ 2 * (k * k) + 2
square_next zero = omega arith
square_next (suc j) = omega arith

square_below : (x y : ℕ) → x * x ≤ y * y → (y < x) ⊎ (x ≤ y) → x ≤ y
square_below x y h (inr k) = k
square_below x y h (inl k) =
    let a : suc y * suc y ≤ x * suc y = mul-le-mul_right (suc y) k in
    let b : x * suc y ≤ x * x = mul-le-mul_left x k in
    absurd (omega arith)

pub mul_within : (x y m n : ℕ) → x ≤ m → y ≤ n → x * y ≤ m * n
mul_within x y m n h k =
    let a : x * y ≤ m * y = mul-le-mul_right y h in
    let b : m * y ≤ m * n = mul-le-mul_left m k in
    omega arith

module _ (a b t : ℕ) (a_few : a ≤ 2 ^ 20) (b_few : b ≤ 2 ^ 24) (scale : IsScale a b t) where
  -- t² * b is at most 2 * a + 2 * b
  scaled : t * t * b ≤ 2 * a + 2 * b
  scaled =
      let low = scale.low in
      let some = scale.some in
      let k = t - 1 in
      let e : t ≡ suc k = omega arith in
      let root : k * k * b ≤ a = rw (← square_is k) low in
      let next : t * t ≤ 2 * (k * k) + 2 = subst (λ u. u * u ≤ 2 * (k * k) + 2) (sym e) (square_next k) in
      let up : t * t * b ≤ (2 * (k * k) + 2) * b = mul-le-mul_right b next in
      omega arith

  scaled_few : t * t * b ≤ 2 ^ 26
  scaled_few = let h = scaled in omega arith

  -- t * b is at most 2 ^ 25
  product_few : t * b ≤ 2 ^ 25
  product_few =
      let h = scaled_few in
      let k : t * t * b * b ≤ 2 ^ 26 * 2 ^ 24 = mul_within (t * t * b) b (2 ^ 26) (2 ^ 24) h b_few in
      let e : t * b * (t * b) ≡ t * t * b * b = omega arith in
      let l : t * b * (t * b) ≤ 2 ^ 25 * 2 ^ 25 = omega arith in
      square_below (t * b) (2 ^ 25) l (cases_lt (2 ^ 25) (t * b))

  -- 2 * a * b * t² is at most 2 ^ 47
  pub denominator_few : 2 * a * b * (t * t) ≤ 2 ^ 47
  denominator_few =
      let h = mul_within a (t * t * b) (2 ^ 20) (2 ^ 26) a_few scaled_few in
      let e : 2 * a * b * (t * t) ≡ 2 * (a * (t * t * b)) = omega arith in
      omega arith

  -- |y| * t * b is at most 2 ^ 55
  magnitude_few : (y : ℕ) → y ≤ 2 ^ 30 → y * t * b ≤ 2 ^ 55
  magnitude_few y y_few =
      let h = mul_within y (t * b) (2 ^ 30) (2 ^ 25) y_few product_few in
      let e : y * t * b ≡ y * (t * b) = omega arith in
      omega arith

  distance_few : (y : ℕ) → y ≤ 2 ^ 30 → abs_diff (y * t * b) a ≤ 2 ^ 55
  distance_few y y_few = let h = magnitude_few y y_few in omega arith

  -- so the square of the distance is at most 2 ^ 110
  pub square_few : (y d : ℕ) → y ≤ 2 ^ 30 → d ≡ abs_diff (y * t * b) a → d * d ≤ 2 ^ 110
  square_few y d y_few e =
      let h = distance_few y y_few in
      let few : d ≤ 2 ^ 55 = omega arith in
      let k = mul_within d d (2 ^ 55) (2 ^ 55) few few in
      omega arith

pub denominator_some : (a b t : ℕ) → 1 ≤ a → 1 ≤ b → 1 ≤ t → 1 ≤ 2 * a * b * (t * t)
denominator_some a b t a_some b_some t_some =
    let h : 1 * 1 ≤ a * b = mul_within 1 1 a b a_some b_some in
    let k : 1 * 1 ≤ t * t = mul_within 1 1 t t t_some t_some in
    let l : 1 * 1 ≤ a * b * (t * t) = mul_within 1 1 (a * b) (t * t) h k in
    omega arith

-- how far two numbers are apart
apart : (x a : ℕ) → nat_abs (pos x -ℤ pos a) ≡ abs_diff x a
apart x a = omega (arith, ints)

-- the root of the quotient's whole part is the root's
pub scale_is : (a b r : ℕ) → 1 ≤ b → r * r ≤ a / b → a / b < (r + 1) * (r + 1) → IsScale a b (r + 1)
scale_is a b r some low high =
    let q = a / b in
    let down : b * (r * r) ≤ b * q = mul-le-mul_left b low in
    let up : b * suc q ≤ b * ((r + 1) * (r + 1)) = mul-le-mul_left b high in
    let root : r + 1 - 1 ≡ r = omega arith in
    record {
      some = omega arith;
      low = rw (root, square_is r) (omega arith);
      high = rw (square_is (r + 1)) (omega arith);
    }

-- the distance and the denominator in the terms of the arguments
pub distance_is : (d x t b a y s c e : ℕ) → d ≡ abs_diff (x * t * b) a → x ≡ y → t ≡ s → b ≡ c → a ≡ e → d ≡ abs_diff (y * s * c) e
distance_is d x t b a y s c e h p q r s' = cc

pub denominator_is : (a b t c d s : ℕ) → a ≡ c → b ≡ d → t ≡ s → 2 * a * b * (t * t) ≡ 2 * c * d * (s * s)
denominator_is a b t c d s p q r = cc

-- the exponent as it is computed
pub exponent_is : (d y t b a : ℕ) → d ≡ abs_diff (y * t * b) a → d * d ≡ nat_abs (pos (y * t * b) -ℤ pos a) ^ 2
exponent_is d y t b a h =
    let e : d ≡ nat_abs (pos (y * t * b) -ℤ pos a) = h ∙ sym (apart (y * t * b) a) in
    ap (λ x. x * x) e ∙ sym (square_is (nat_abs (pos (y * t * b) -ℤ pos a)))
