-- Entries gathered from rows: one for each place, of the row that names the place.
use Rattle.std.specs.Prelude.{◌≡◌, ◌<◌, ◌==◌, ℕ, Bool, false, List, length, find, slice_index_or, Option, None, option_map, unwrap_or, sum_by}
use Rattle.std.specs.List.{list_any}
use Rattle.tda_io.specs.Csv.{Row}

-- the number in the first row of which the test holds, if there is one
abbrev pub counted : (Row → Bool) → (Row → ℕ) → List Row → Option ℕ
counted is number rows = option_map number (find is rows)

-- a row that names one place, which no row before it names
pub record Says (places : ℕ) (names : ℕ → Row → Bool) (number : Row → ℕ) (earlier : List Row) (row : Row) (place count : ℕ) : Type 0 where
  pub within : place < places
  pub own : (p : ℕ) → p < places → names p row ≡ (p == place)
  pub first : list_any (names place) earlier ≡ false
  pub counts : number row ≡ count

-- an entry for each place: the number in its row, if there is one, and all of them together
pub record Gathered (places : ℕ) (names : ℕ → Row → Bool) (number : Row → ℕ) (rows : List Row) (entries : List (Option ℕ)) : Type 0 where
  pub size : length entries ≡ places
  pub entry : (p : ℕ) → p < places → slice_index_or entries p None ≡ counted (names p) number rows
  pub whole : sum_by (λ e. unwrap_or e 0) entries ≡ sum_by number rows
