-- Rows with an index of their codes.
use Rattle.std.specs.Prelude.{◌≡◌, ℕ, ◌<◌, ◌^◌, List, length}
use Rattle.tda_io.specs.Csv.{Row, after_header}
use Rattle.tda_io.specs.Rows.{row_width}
use Rattle.tda_spine.specs.Index.{Codes, found}
use Rattle.tda_spine.specs.Rows.{place_of}

-- a header and rows of three fields, not too many, and the index finds where each code stands first among the rows
pub record IsIndexed (rows : List Row) (codes : Codes) : Type 0 where
  pub some : 0 < length rows
  pub few : length rows < 2 ^ 30
  pub width : row_width rows ≡ 3
  pub finds : (code : List ℕ) → found codes code ≡ place_of (after_header rows) code
