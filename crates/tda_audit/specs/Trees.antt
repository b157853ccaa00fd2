-- The trees of all levels.
use Rattle.std.specs.Prelude.{ℕ, ◌≡◌, ◌<◌, ◌≤◌, [], List, All, length, slice_index_or}
use Rattle.tda_model.specs.Schema.{Schema}
use Rattle.tda_schema.specs.Stated.{level_at, queries_at}
use Rattle.tda_groups.specs.Tree.{Tree, IsTreeOf}

-- the tree of each level, in order
pub record AreTrees (s : Schema) (trees : List Tree) : Type 0 where
  pub count : length trees ≡ length s.levels
  pub each : (k : ℕ) (t : Tree) → k < length s.levels → IsTreeOf s (level_at s k) (slice_index_or trees k t)

-- a level has few queries, each over all possible cells
pub record HasFewQueries (s : Schema) (level : ℕ) : Type 0 where
  pub few : length (queries_at s level) ≤ 8
  pub over_all : All (λ q. q.only ≡ []) (queries_at s level)
