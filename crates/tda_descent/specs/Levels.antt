-- What each level of a schema has.
use Rattle.std.specs.Prelude.{ℕ, ◌≡◌, ◌<◌, ◌≤◌, [], All, length}
use Rattle.tda_model.specs.Schema.{Schema}
use Rattle.tda_schema.specs.Stated.{level_at, queries_at}
use Rattle.tda_groups.specs.Tree.{Tree, IsTreeOf}

-- few queries, each over all possible cells, and a tree of groups
pub record IsGrouped (s : Schema) (level : ℕ) : Type 0 where
  pub few : length (queries_at s level) ≤ 8
  pub over_all : All (λ q. q.only ≡ []) (queries_at s level)
  pub tree : Tree
  pub is_tree : IsTreeOf s (level_at s level) tree

abbrev pub AreGrouped : Schema → Type 0
AreGrouped s = (level : ℕ) → level < length s.levels → IsGrouped s level
