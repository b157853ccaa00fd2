-- What a row says of its place.
use Rattle.std.proofs.Common.{◌≡◌, ℕ, Bool, true, false, not, cond, Option, Some, None, ℤ, is_none, refl, ap, ◌∙◌}
use Rattle.tda_io.specs.Csv.{Row}
use Rattle.tda_prices.specs.Left.{price_in_row, names_place, placed_fault, past_fault}
use Rattle.tda_prices.specs.declared.fault.PriFault.{PriFault}
use Rattle.tda_prices.specs.declared.fault.PriFault.TheVariants.{WrongPlace, BadNumber, TooMany}

module _ (number : ℕ) (place row : Row) where
  abbrev then_number : Option PriFault
  then_number = cond (is_none (price_in_row row)) (Some (BadNumber number)) None

  pub other_place : names_place place row ≡ false → placed_fault number place row ≡ Some (WrongPlace number)
  other_place other = ap (λ b. cond (not b) (Some (WrongPlace number)) then_number) other

  module _ (same : names_place place row ≡ true) where
    right_place : placed_fault number place row ≡ then_number
    right_place = ap (λ b. cond (not b) (Some (WrongPlace number)) then_number) same

    pub no_number : price_in_row row ≡ None → placed_fault number place row ≡ Some (BadNumber number)
    no_number none = right_place ∙ ap (λ o. cond (is_none o) (Some (BadNumber number)) None) none

    pub no_fault : (z : ℤ) → price_in_row row ≡ Some z → placed_fault number place row ≡ None
    no_fault z price = right_place ∙ ap (λ o. cond (is_none o) (Some (BadNumber number)) None) price

pub past_number : (number : ℕ) (row : Row) (z : ℤ) → price_in_row row ≡ Some z → past_fault number row ≡ TooMany number
past_number number row z price = ap (λ o. cond (is_none o) (BadNumber number) (TooMany number)) price

pub past_none : (number : ℕ) (row : Row) → price_in_row row ≡ None → past_fault number row ≡ BadNumber number
past_none number row none = ap (λ o. cond (is_none o) (BadNumber number) (TooMany number)) none

pub equal : (b ne : Bool) → ne ≡ not b → ne ≡ false → b ≡ true
equal true ne e differs = refl
equal false ne e differs = absurd cc

pub unequal : (b ne : Bool) → ne ≡ not b → ne ≡ true → b ≡ false
unequal true ne e differs = absurd cc
unequal false ne e differs = refl
