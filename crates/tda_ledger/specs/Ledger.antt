-- The ledger of a schema: what is spent on each query, on all of them, and how much may be.
use Rattle.std.specs.Prelude.{ℕ, ◌≡◌, ◌<◌, List, length, map}
use Rattle.std.specs.List.{flat_map, range_with_len}
use Rattle.tda_frac.specs.Fraction.{Fraction}
use Rattle.tda_model.specs.Schema.{Schema}
use Rattle.tda_schema.specs.Shares.{frac_of, spent_of}
use Rattle.tda_schema.specs.Stated.{queries_at, query_at}
use Rattle.tda_ledger.specs.declared.row.LedgerRow.{LedgerRow}

pub record Ledger : Type 0 where
  pub rows : List LedgerRow
  pub spent : Fraction
  pub total : Fraction

abbrev pub row_at : Schema → ℕ → ℕ → LedgerRow
row_at s level query = record { level = level; query = query; share = frac_of (query_at s level query).share }

-- a row for each query of a level
abbrev pub level_rows : Schema → ℕ → List LedgerRow
level_rows s level = map (row_at s level) (range_with_len 0 (length (queries_at s level)))

-- and of each level
abbrev pub rows_of : Schema → List LedgerRow
rows_of s = flat_map (level_rows s) (range_with_len 0 (length s.levels))

abbrev pub ledger_of : Schema → Ledger
ledger_of s = record { rows = rows_of s; spent = frac_of (spent_of s); total = frac_of s.total }

-- the row is that of a query of the schema
pub record IsRowOf (s : Schema) (r : LedgerRow) : Type 0 where
  pub level : r.level < length s.levels
  pub query : r.query < length (queries_at s r.level)
  pub share : r.share ≡ frac_of (query_at s r.level r.query).share
