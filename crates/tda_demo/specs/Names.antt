-- The names of a schema's levels and values, by their numbers.
use Rattle.std.specs.Prelude.{ℕ, List, [], slice_get, slice_index_or, Some, None}
use Rattle.tda_model.specs.Schema.{Schema}

abbrev pub level_name : Schema → ℕ → List ℕ
level_name s l = elim (slice_get s.levels l) [ Some x ↦ x.name | None ↦ [] ]

-- the names of an attribute's values
abbrev pub value_names : Schema → ℕ → List (List ℕ)
value_names s attribute = elim (slice_get s.attributes attribute) [ Some x ↦ x.values | None ↦ [] ]

abbrev pub value_name : Schema → ℕ → ℕ → List ℕ
value_name s attribute value = slice_index_or (value_names s attribute) value []
