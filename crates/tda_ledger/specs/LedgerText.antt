-- The file of a ledger.
use Rattle.std.specs.Prelude.{ℕ, List, [], ◌∷◌, ◌++◌, codes}
use Rattle.std.specs.List.{flat_map}
use Rattle.tda_frac.specs.Fraction.{Fraction, text_of}
use Rattle.tda_model.specs.Schema.{Schema}
use Rattle.tda_model.specs.TablesText.{row_text}
use Rattle.tda_schema.specs.Shares.{frac_of, spent_of}
use Rattle.tda_schema.specs.Stated.{level_at, query_at}
use Rattle.tda_ledger.specs.declared.row.LedgerRow.{LedgerRow}
use Rattle.tda_ledger.specs.Ledger.{rows_of}

abbrev pub ledger_header : List ℕ
ledger_header = row_text (codes "level" ∷ codes "query" ∷ codes "share" ∷ [])

-- two texts and a fraction, always with its denominator
abbrev pub share_row : List ℕ → List ℕ → Fraction → List ℕ
share_row first second share = row_text (first ∷ second ∷ text_of share ∷ [])

-- the names of a query's level and of the query, and its share
abbrev pub query_row : Schema → LedgerRow → List ℕ
query_row s r = share_row (level_at s r.level).name (query_at s r.level r.query).name r.share

-- the header, the queries in the order level, query, the sum of their shares, and the total
abbrev pub ledger_text : Schema → List ℕ
ledger_text s =
    ledger_header ++ flat_map (query_row s) (rows_of s)
    ++ share_row (codes "-") (codes "spent") (frac_of (spent_of s))
    ++ share_row (codes "-") (codes "total") (frac_of s.total)
