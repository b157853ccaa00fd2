-- One over a share.
use Rattle.std.proofs.Common.{◌≡◌, ℕ, ◌*◌, ◌≤◌, sym, ap, ◌∙◌, inl, inr, arith}
use Rattle.std.proofs.lemmas.Bool.{cases_lt}
use Rattle.std.proofs.lemmas.Nat.{mul-le}
use Rattle.std.proofs.Math.Nat.{mul_comm}
use Rattle.tda_frac.specs.Fraction.{Fraction, IsReduced, IsFracOf, IsOnlyReduced, SameNumber, reciprocal_of}

product_some : (a b : ℕ) → 1 ≤ a → 1 ≤ b → 1 ≤ a * b
product_some a b p q = let h = mul-le 1 1 a b p q in omega arith

some_factor : (a b c : ℕ) → a * b ≡ c → 1 ≤ c → 1 ≤ a
some_factor a b c e some = elim (cases_lt 0 a) [
  | inl more ↦ omega arith
  | inr none ↦ let zero : a ≡ 0 = omega arith in let product : a * b ≡ 0 * b = ap (λ k. k * b) zero in absurd (omega arith)
]

-- the other way round it is in lowest terms too
pub flipped_is : (f share : Fraction) → 1 ≤ share.den → IsOnlyReduced share → IsFracOf f (reciprocal_of share) → f ≡ reciprocal_of share
flipped_is f share some only h =
    let same : f.num * share.num ≡ share.den * f.den = h.same in
    let product = product_some share.den f.den some h.frac.reduced.denominator in
    let low = h.frac.reduced.lowest in
    let reduced : IsReduced (reciprocal_of f) = record { denominator = some_factor f.num share.num (share.den * f.den) same product; lowest = (low.1, low.0, λ d p q. low.2 d q p) } in
    let turned : SameNumber (reciprocal_of f) share = mul_comm f.den share.den ∙ sym same ∙ mul_comm f.num share.num in
    ap reciprocal_of (only (reciprocal_of f) reduced turned)
