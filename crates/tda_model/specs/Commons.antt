-- The common denominator of a schema's shares.
use Rattle.std.specs.Prelude.{ℕ, ◌*◌, ◌%◌, ◌==◌, ◌&&◌, Bool, List, find, fold, unwrap_or}
use Rattle.std.specs.List.{flat_map, range_with_len}
use Rattle.tda_model.specs.Schema.{Query, Level, Schema}

-- whether d divides n
abbrev pub divides : ℕ → ℕ → Bool
divides d n = n % d == 0

-- the least common multiple: the first number from 1 on that both divide
unfoldable pub lcm : ℕ → ℕ → ℕ
lcm a b = unwrap_or (find (λ m. divides a m && divides b m) (range_with_len 1 (a * b))) 0

abbrev pub queries_in : List Level → List Query
queries_in levels = flat_map (λ l. l.queries) levels

-- all queries, in the order level, query
abbrev pub queries_of : Schema → List Query
queries_of s = queries_in s.levels

abbrev pub common_after : ℕ → List Query → ℕ
common_after common qs = fold (λ m q. lcm m q.share.den) common qs

-- the least common multiple of the shares' denominators
abbrev pub common_of : Schema → ℕ
common_of s = common_after 1 (queries_of s)
