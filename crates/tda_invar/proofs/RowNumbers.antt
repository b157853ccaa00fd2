-- The number of a row after the header.
use Rattle.std.proofs.Common.{◌≡◌, ℕ, ◌+◌, ◌<◌, List, length, take, length-take, length-drop, arith}
use Rattle.tda_io.specs.Csv.{Row, after_header}
use Rattle.tda_spine.specs.Judged.{row_number}

pub below_after : (rows : List Row) (k : ℕ) → k + 1 < length rows → k < length (after_header rows)
below_after rows k l = omega (arith, length-drop 1 rows)

pub number_is : (rows : List Row) (k : ℕ) → k + 1 < length rows → row_number (take k (after_header rows)) ≡ k + 2
number_is rows k l = let below = below_after rows k l in omega (arith, length-take k (after_header rows))
