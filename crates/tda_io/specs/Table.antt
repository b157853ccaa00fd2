-- Rows of one width, kept as the bytes of all fields and the places where the fields end.
use Rattle.std.specs.Prelude.{◌≡◌, ◌+◌, ◌*◌, ℕ, zero, suc, List, [], ◌∷◌, length, take, drop, sum_by}
use Rattle.csv.specs.Records.{cut_from, Rising}

-- as many rows of these fields, each so wide
abbrev pub rows_by : ℕ → ℕ → List (List ℕ) → List (List (List ℕ))
rows_by width zero fields = []
rows_by width (suc count) fields = take width fields ∷ rows_by width count (drop width fields)

-- the rows of these bytes and ends
abbrev pub table_rows : ℕ → ℕ → List ℕ → List ℕ → List (List (List ℕ))
table_rows width count ends bytes = rows_by width count (cut_from 0 ends bytes)

-- how many bytes the fields of a row have
abbrev pub row_size : List (List ℕ) → ℕ
row_size [] = 0
row_size (field ∷ fields) = length field + row_size fields

-- the same and one more for each field, as the byte that ends it
abbrev pub row_cost : List (List ℕ) → ℕ
row_cost row = row_size row + length row

abbrev pub rows_cost : List (List (List ℕ)) → ℕ
rows_cost rows = sum_by row_cost rows

-- the ends rise within the bytes, there are as many as fields, and without rows the width is 0
pub record IsTable (width count : ℕ) (ends bytes : List ℕ) : Type 0 where
  pub rising : Rising 0 ends (length bytes)
  pub whole : length ends ≡ count * width
  pub none : count ≡ 0 → width ≡ 0
