-- The tree of a level's groups as a value, and what it says of a schema.
use Rattle.std.specs.Prelude.{ℕ, ◌≡◌, ◌↔◌, ◌<◌, List, [], length, Contains, Option, Some, None, position, slice_get, slice_index_or, IsSomeAnd}
use Rattle.std.specs.Str.{bytes_eq}
use Rattle.tda_model.specs.Schema.{Query, Level, Schema}
use Rattle.tda_model.specs.Cells.{possible_cells}
use Rattle.tda_model.specs.Groups.{kind_cells, kind_count, class_cells, classes_of, group_count, IsGroup}
use Rattle.tda_groups.specs.Order.{AreGroups, group_at}
use Rattle.tda_groups.specs.Chains.{groups_in_order}

-- the groups in order, the group of each kind, and of each query and cell the group of the class that the cell names
pub record Tree : Type 0 where
  pub groups : List (List ℕ)
  pub kinds : List (Option ℕ)
  pub classes : List (List (Option ℕ))

abbrev pub kind_at : Tree → ℕ → Option ℕ
kind_at t kind = slice_index_or t.kinds kind None

abbrev pub class_at : Tree → ℕ → ℕ → Option ℕ
class_at t query cell = slice_index_or (slice_index_or t.classes query []) cell None

-- the number of a set among the groups
abbrev pub place_in : List (List ℕ) → List ℕ → Option ℕ
place_in groups xs = position (bytes_eq xs) groups

-- the group of this number has these cells
pub record IsGroupAt (t : Tree) (g : ℕ) (cells : List ℕ) : Type 0 where
  pub here : g < length t.groups
  pub members : group_at t.groups g ≡ cells

-- the tree of a level: its groups are the level's, each once and in order, and each kind and class has the number of its own
pub record IsTreeOf (s : Schema) (l : Level) (t : Tree) : Type 0 where
  pub groups : AreGroups t.groups
  pub exact : (xs : List ℕ) → Contains t.groups xs ↔ IsGroup s l xs
  pub count : length t.groups ≡ group_count s l
  pub whole : group_at t.groups 0 ≡ possible_cells s
  pub each_kind : (kind : ℕ) → kind < kind_count s → IsSomeAnd (kind_at t kind) (λ g. slice_get t.groups g ≡ Some (kind_cells s kind))
  pub each_class : (query class : ℕ) (q : Query) → slice_get l.queries query ≡ Some q → Contains (classes_of s q) class
      → IsSomeAnd (class_at t query class) (λ g. slice_get t.groups g ≡ Some (class_cells s q class))
  pub listed : t.groups ≡ groups_in_order s l
