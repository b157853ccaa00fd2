-- Signed numbers of 64 bits.
use Rattle.std.proofs.Common.{ℕ, ◌≡◌, ◌<◌, ◌^◌, ◌∙◌, ℤ, pos, neg_ℤ, nat_abs, ◌-ℤ◌, to_z, of_z, SFits, w64, ap, arith}
use Rattle.std.proofs.lemmas.Int.{to_z-of_z, ints}

pub negated : (p : ℕ) → p < 2 ^ 63 → to_z w64 (of_z w64 (pos 0 -ℤ to_z w64 p)) ≡ neg_ℤ (pos p)
negated p small = omega (arith, ints)

-- the absolute value as it is computed
pub size_is : (z : ℤ) (x u : ℕ) → SFits w64 z → x ≡ u → u ≡ nat_abs (to_z w64 (of_z w64 z)) → x ≡ nat_abs z
size_is z x u fits e f = e ∙ f ∙ ap nat_abs (to_z-of_z w64 z fits)
