-- Classes of a query and groups of a level, as lists of possible cells in order.
use Rattle.std.specs.Prelude.{ℕ, ◌⊎◌, Bool, List, [], ◌∷◌, ◌++◌, length, slice_get, filter, map, ◌==◌, nat_lt, not, Some, None, All, Contains}
use Rattle.std.specs.List.{list_all, range_with_len, flat_map}
use Rattle.std.specs.Str.{bytes_eq}
use Rattle.tda_model.specs.Schema.{Entry, Query, Level, Schema, Attribute_values, Recode_labels}
use Rattle.tda_model.specs.Cells.{value_at, kind_of, is_listed, possible_cells}

-- the label of a value in a recode
abbrev pub label_of : Schema → ℕ → ℕ → List ℕ
label_of s recode cell =
    elim (slice_get s.recodes recode) [ Some r ↦ elim (slice_get r.labels (value_at s cell r.of)) [ Some label ↦ label | None ↦ [] ] | None ↦ [] ]

-- two cells count as one at an entry: one value, or one label
abbrev pub alike_at : Schema → ℕ → ℕ → Entry → Bool
alike_at s i j (Attribute_values a) = value_at s i a == value_at s j a
alike_at s i j (Recode_labels r) = bytes_eq (label_of s r i) (label_of s r j)

abbrev pub one_class : Schema → Query → ℕ → ℕ → Bool
one_class s q i j = list_all (alike_at s i j) q.by

-- the possible cells that the query counts
abbrev pub scope_cells : Schema → Query → List ℕ
scope_cells s q = filter (is_listed s q.only) (possible_cells s)

-- the cells of the class of a cell of the scope
abbrev pub class_cells : Schema → Query → ℕ → List ℕ
class_cells s q cell = filter (one_class s q cell) (scope_cells s q)

-- a class is named by its first cell: a cell of the scope before which none is of its class
abbrev pub is_class : Schema → Query → ℕ → Bool
is_class s q cell = list_all (λ j. not (nat_lt j cell)) (class_cells s q cell)

abbrev pub classes_of : Schema → Query → List ℕ
classes_of s q = filter (is_class s q) (scope_cells s q)

abbrev pub kind_cells : Schema → ℕ → List ℕ
kind_cells s kind = filter (λ j. kind_of s j == kind) (possible_cells s)

abbrev pub kind_count : Schema → ℕ
kind_count s = elim s.attributes [ a ∷ rest ↦ length a.values | [] ↦ 0 ]

-- the sets of which each is a group: all possible cells, those of each kind, the classes of each query
abbrev pub group_sets : Schema → Level → List (List ℕ)
group_sets s l =
    possible_cells s ∷ map (kind_cells s) (range_with_len 0 (kind_count s))
    ++ flat_map (λ q. map (class_cells s q) (classes_of s q)) l.queries

abbrev pub IsGroup : Schema → Level → List ℕ → Type 0
IsGroup s l cells = Contains (group_sets s l) cells

-- each set once, where it stands first (sets of cells are compared as their lists)
abbrev pub each_once : List (List ℕ) → List (List ℕ)
each_once [] = []
each_once (xs ∷ rest) = xs ∷ filter (λ ys. not (bytes_eq xs ys)) (each_once rest)

-- how many groups a level has: equal sets are one group
abbrev pub group_count : Schema → Level → ℕ
group_count s l = length (each_once (group_sets s l))

-- no cell in common, or the one holds the other
abbrev pub AreNested : List ℕ → List ℕ → Type 0
AreNested xs ys =
    All (λ x. ¬ Contains ys x) xs ⊎ (All (Contains ys) xs ⊎ All (Contains xs) ys)

abbrev pub LevelIsNested : Schema → Level → Type 0
LevelIsNested s l = All (λ xs. All (AreNested xs) (group_sets s l)) (group_sets s l)
