-- How many different sets families have.
use Rattle.std.specs.Prelude.{ℕ, Bool, not, ◌&&◌, List, length, filter}
use Rattle.std.specs.List.{list_any, range_with_len}
use Rattle.tda_sets.specs.Family.{Names, is_in}
use Rattle.tda_sets.specs.Nested.{is_kept}

-- the set of a least member is a set of the other family too
abbrev pub is_shared : Names → Names → ℕ → Bool
is_shared names other first = is_in names first first && is_in other first first && is_kept names other first && is_kept other names first

-- the set of a least member is no set of the earlier families
abbrev pub is_fresh : List Names → Names → ℕ → Bool
is_fresh earlier names first = is_in names first first && not (list_any (λ other. is_shared names other first) earlier)

abbrev pub fresh_count : List Names → Names → ℕ
fresh_count earlier names = length (filter (is_fresh earlier names) (range_with_len 0 (length names)))
