-- What a schema comes to: its possible cells, the classes of its queries and the groups of its levels.
use Rattle.std.specs.Prelude.{ℕ, ◌≡◌, ◌==◌, Bool, ◌&&◌, ◌||◌, not, List, length, map, sum_by, All, Option, Some, None, nat_le, if◌then◌else◌}
use Rattle.std.specs.Bool.{Decides}
use Rattle.std.specs.List.{list_all, list_any, range_with_len}
use Rattle.tda_model.specs.Schema.{Query, Level, Schema}
use Rattle.tda_model.specs.Cells.{is_possible, kind_of, all_cells, possible_cells}
use Rattle.tda_model.specs.Groups.{classes_of, kind_count, group_sets, group_count, LevelIsNested}
use Rattle.tda_model.specs.Bounds.{HasKinds}
use Rattle.tda_schema.specs.Stated.{class_of}

-- of each cell the first cell of its class, and the classes by their first cells
pub record QueryParts : Type 0 where
  pub class_of : List (Option ℕ)
  pub classes : List ℕ

pub record LevelParts : Type 0 where
  pub queries : List QueryParts
  pub groups : ℕ
  pub places : ℕ

pub record Parts : Type 0 where
  pub possible : List Bool
  pub levels : List LevelParts

-- the class of a cell that is possible
abbrev pub class_at : Schema → Query → ℕ → Option ℕ
class_at s q cell = if is_possible s cell then Some (class_of s q cell) else None

abbrev pub query_parts : Schema → Query → QueryParts
query_parts s q = record { class_of = map (class_at s q) (all_cells s); classes = classes_of s q }

-- how many places each unit of the level has: one for each class of each query
abbrev pub place_count : Schema → Level → ℕ
place_count s l = sum_by (λ q. length (classes_of s q)) l.queries

abbrev pub level_parts : Schema → Level → LevelParts
level_parts s l = record { queries = map (query_parts s) l.queries; groups = group_count s l; places = place_count s l }

abbrev pub parts_of : Schema → Parts
parts_of s = record { possible = map (is_possible s) (all_cells s); levels = map (level_parts s) s.levels }

-- the parts of a schema whose groups are nested and whose kinds have possible cells
pub record ArePartsOf (s : Schema) (p : Parts) : Type 0 where
  pub value : p ≡ parts_of s
  pub nested : All (LevelIsNested s) s.levels
  pub kinds : HasKinds s

-- The tests of `AreNested`, `LevelIsNested` and `HasKinds`, which are the definitions. A clause of `read_schema` says that the
-- tests decide them.
abbrev pub holds : List ℕ → ℕ → Bool
holds xs x = list_any (λ y. y == x) xs

abbrev pub are_nested : List ℕ → List ℕ → Bool
are_nested xs ys = list_all (λ x. not (holds ys x)) xs || (list_all (holds ys) xs || list_all (holds xs) ys)

abbrev pub level_is_nested : Schema → Level → Bool
level_is_nested s l = list_all (λ xs. list_all (are_nested xs) (group_sets s l)) (group_sets s l)

abbrev pub is_nested : Schema → Bool
is_nested s = list_all (level_is_nested s) s.levels

abbrev pub has_kinds : Schema → Bool
has_kinds s = nat_le 1 (kind_count s) && list_all (λ kind. list_any (λ cell. kind_of s cell == kind) (possible_cells s)) (range_with_len 0 (kind_count s))

-- a schema passes exactly where each two groups of each level are nested, and where there is a kind and each has a possible cell
pub record AreDecided (s : Schema) : Type 0 where
  pub nested : Decides (is_nested s) (All (LevelIsNested s) s.levels)
  pub kinds : Decides (has_kinds s) (HasKinds s)
