-- What is due of the rows that are left, for the places that are left.
use Rattle.std.specs.Prelude.{◌≡◌, ◌≢◌, ◌+◌, ◌<◌, ◌≤◌, ℕ, ℤ, pos, nat_abs, Bool, not, List, [], ◌∷◌, ◌++◌, length, take, All, Option, Some, None, option_map, is_none, unwrap_or, Result, Ok, Err, if◌then◌else◌}
use Rattle.tda_io.specs.Csv.{Row, same_row}
use Rattle.tda_io.specs.Due.{◌>>◌, none_of}
use Rattle.tda_io.specs.RowReading.{RowsRead, bad_rest}
use Rattle.tda_prices.specs.Numbered.{number_in}
use Rattle.tda_prices.specs.PricesText.{price_limit}
use Rattle.tda_prices.specs.declared.fault.PriFault.{PriFault}
use Rattle.tda_prices.specs.declared.fault.PriFault.TheVariants.{BadRow, WrongPlace, BadNumber, Missing, TooMany, NoMemory}

abbrev pub price_in_row : Row → Option ℤ
price_in_row row = number_in 4 price_limit row

-- the first four fields of a row are these
abbrev pub names_place : Row → Row → Bool
names_place place row = same_row place (take 4 row)

-- the fault of a row that has a place, by the row's number
abbrev pub placed_fault : ℕ → Row → Row → Option PriFault
placed_fault number place row =
    if not (names_place place row) then Some (WrongPlace number)
    else if is_none (price_in_row row) then Some (BadNumber number)
    else None

-- the fault of a row after the last place
abbrev pub past_fault : ℕ → Row → PriFault
past_fault number row = if is_none (price_in_row row) then BadNumber number else TooMany number

-- these prices, and then the others
abbrev pub following : List ℤ → Result (List ℤ) PriFault → Result (List ℤ) PriFault
following prices (Ok others) = Ok (prices ++ others)
following prices (Err fault) = Err fault

-- one row for each place; number is that of the row before them
abbrev pub left_due : ℕ → List Row → List Row → Result (List ℤ) PriFault
left_due number [] [] = Ok []
left_due number [] (row ∷ rows) = Err (past_fault (number + 1) row)
left_due number (place ∷ places) [] = Err Missing
left_due number (place ∷ places) (row ∷ rows) =
    none_of (placed_fault (number + 1) place row)
    >> following (unwrap_or (price_in_row row) (pos 0) ∷ []) (left_due (number + 1) places rows)

-- a row of another width comes first
abbrev pub due : List Row → RowsRead → Result (List ℤ) PriFault
due places r = none_of (option_map BadRow (bad_rest r)) >> left_due r.number places r.rest

-- the rows of the first of these places were read, so that others are left, and their prices appended
pub record Reads (places left : List Row) (old new : RowsRead) (before after : List ℤ) : Type 0 where
  pub prices : List ℤ
  pub appended : after ≡ before ++ prices
  pub size : length prices + length left ≡ length places
  pub near : All (λ z. nat_abs z ≤ price_limit) prices
  pub gives : (rest : List Row) → due (places ++ rest) old ≡ following prices (due (left ++ rest) new)
  pub width : new.width ≡ old.width
  pub some : 0 < new.number

-- reading the rows of these places ends with this fault
abbrev pub Stops : List Row → RowsRead → PriFault → Type 0
Stops places old fault = fault ≢ NoMemory → (rest : List Row) → due (places ++ rest) old ≡ Err fault
