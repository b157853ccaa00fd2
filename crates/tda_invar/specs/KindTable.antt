-- A number for each unit and kind, those of a unit side by side.
use Rattle.std.specs.Prelude.{◌≡◌, ◌≢◌, ◌+◌, ◌*◌, ◌/◌, ◌%◌, ◌^◌, ◌<◌, ℕ, List, length, map, nat_lt, if◌then◌else◌, slice_index}
use Rattle.std.specs.List.{range_with_len}

-- the most that a number may be: that of 2^17 blocks together
abbrev pub number_limit : ℕ
number_limit = 2 ^ 37

pub record NumberTable : Type 0 where
  pub units : ℕ
  pub kinds : ℕ
  pub numbers : List ℕ

-- the number of a unit and a kind, and 0 outside the table
abbrev pub number_at : NumberTable → ℕ → ℕ → ℕ
number_at t unit kind = if nat_lt kind t.kinds then slice_index t.numbers (unit * t.kinds + kind) else 0

-- the table of a function
abbrev pub table_of : ℕ → ℕ → (ℕ → ℕ → ℕ) → NumberTable
table_of units kinds f = record {
  units = units;
  kinds = kinds;
  numbers = map (λ place. f (place / kinds) (place % kinds)) (range_with_len 0 (units * kinds));
}

-- a table of the same size
pub record IsSized (old new : NumberTable) : Type 0 where
  pub units : new.units ≡ old.units
  pub kinds : new.kinds ≡ old.kinds
  pub size : length new.numbers ≡ length old.numbers

-- the new table has this number for a unit and a kind, and else those of the old one
pub record IsChanged (old new : NumberTable) (unit kind number : ℕ) : Type 0 where
  pub sized : IsSized old new
  pub own : number_at new unit kind ≡ number
  pub others : (u k : ℕ) → (u ≡ unit → k ≡ kind → ⊥) → number_at new u k ≡ number_at old u k

-- the new table has these numbers for the first kinds of a unit, and else those of the old one
pub record HasRow (old new : NumberTable) (unit kinds : ℕ) (row : ℕ → ℕ) : Type 0 where
  pub sized : IsSized old new
  pub own : (k : ℕ) → k < kinds → number_at new unit k ≡ row k
  pub others : (u k : ℕ) → (u ≡ unit → k < kinds → ⊥) → number_at new u k ≡ number_at old u k
