-- Fractions of natural numbers as rational numbers: when two are equal, which is greater, their sum,
-- and their texts. A fraction is a number where its denominator is at least 1.
use Rattle.std.specs.Prelude.{◌≡◌, ◌+◌, ◌*◌, ◌^◌, ◌<◌, ◌≤◌, ◌⊎◌, ℕ, List, ◌∷◌, ◌++◌}
use Rattle.std.specs.Fmt.{decimal}
use Rattle.std.specs.Int.{IsGcd}

-- num / den
pub record Fraction : Type 0 where
  pub num : ℕ
  pub den : ℕ

-- in lowest terms, with a denominator of at least 1
pub record IsReduced (f : Fraction) : Type 0 where
  pub denominator : 1 ≤ f.den
  pub lowest : IsGcd f.num f.den 1

-- both numbers fit a u64
pub record FitsU64 (f : Fraction) : Type 0 where
  pub num : f.num < 2 ^ 64
  pub den : f.den < 2 ^ 64

-- a fraction as a `Frac` holds it
pub record IsFrac (f : Fraction) : Type 0 where
  pub reduced : IsReduced f
  pub fits : FitsU64 f

-- both are one rational number: their cross products are equal
abbrev pub SameNumber : Fraction → Fraction → Type 0
SameNumber f g = f.num * g.den ≡ g.num * f.den

-- no other fraction in lowest terms is the same number
abbrev pub IsOnlyReduced : Fraction → Type 0
IsOnlyReduced f = (g : Fraction) → IsReduced g → SameNumber g f → g ≡ f

-- f is at most g: the cross products are in that order
abbrev pub IsAtMost : Fraction → Fraction → Type 0
IsAtMost f g = f.num * g.den ≤ g.num * f.den

-- f is the fraction g, as a `Frac` holds it
pub record IsFracOf (f g : Fraction) : Type 0 where
  pub frac : IsFrac f
  pub same : SameNumber f g

-- f + g, over the product of their denominators
abbrev pub sum_of : Fraction → Fraction → Fraction
sum_of f g = record { num = f.num * g.den + g.num * f.den; den = f.den * g.den }

-- one over f
abbrev pub reciprocal_of : Fraction → Fraction
reciprocal_of f = record { num = f.den; den = f.num }

-- the number w is f times l
abbrev pub IsProduct : Fraction → ℕ → ℕ → Type 0
IsProduct f l w = w * f.den ≡ f.num * l

-- the byte `/`
abbrev pub slash : ℕ
slash = 47

-- The text `n/d`. `decimal n` is the canonical decimal of n: `0`, or a digit 1 to 9 and further digits.
abbrev pub text_of : Fraction → List ℕ
text_of f = decimal f.num ++ slash ∷ decimal f.den

-- a text that is read as f: `n/d`, or `n` alone for n/1, in canonical decimals of a u64, with d at
-- least 1, in lowest terms or not
pub record IsTextOf (text : List ℕ) (f : Fraction) : Type 0 where
  pub written : (text ≡ text_of f) ⊎ ((text ≡ decimal f.num) × (f.den ≡ 1))
  pub denominator : 1 ≤ f.den
  pub fits : FitsU64 f
