-- The terms of a level's groups, looked up by the numbers of queries and groups.
use Rattle.std.specs.Prelude.{ℕ, ◌≡◌, ◌+◌, ◌*◌, ◌^◌, ◌<◌, ◌≤◌, ℤ, List, [], length, map, All, Option, None, MatchOption, slice_index, slice_index_or}
use Rattle.tda_model.specs.Commons.{common_of}
use Rattle.tda_model.specs.Deviation.{weight_of}
use Rattle.tda_model.specs.Groups.{class_cells, classes_of}
use Rattle.tda_model.specs.Schema.{Schema}
use Rattle.tda_model.specs.Sizes.{places_at}
use Rattle.tda_model.specs.Spine.{Spine, level_of, units_at}
use Rattle.tda_schema.specs.Stated.{level_at, queries_at, query_at}
use Rattle.tda_groups.specs.Order.{group_at}
use Rattle.tda_groups.specs.Tree.{Tree, IsTreeOf}
use Rattle.tda_places.specs.Measurements.{AreMeasurementsOf}
use Rattle.tda_places.specs.Spots.{before_level, before_query, class_count}

-- for each query its weight, and for each group where the place of the class that has just its cells stands among a unit's places
pub record TermTable : Type 0 where
  pub weights : List ℕ
  pub places : List (List (Option ℕ))

abbrev pub row_at : TermTable → ℕ → List (Option ℕ)
row_at t query = slice_index_or t.places query []

abbrev pub place_at : TermTable → ℕ → ℕ → Option ℕ
place_at t query group = slice_index_or (row_at t query) group None

-- the cells of the class of a rank among the classes of a query
abbrev pub ranked_cells : Schema → ℕ → ℕ → ℕ → List ℕ
ranked_cells s level query rank = class_cells s (query_at s level query) (slice_index (classes_of s (query_at s level query)) rank)

-- none of the first n classes has just these cells
abbrev pub HasNoClass : Schema → ℕ → ℕ → ℕ → List ℕ → Type 0
HasNoClass s level query n cells = (rank : ℕ) → rank < n → ranked_cells s level query rank ≡ cells → ⊥

-- one of the first n classes has just these cells, and its place stands there among a unit's places
pub record IsClassPlace (s : Schema) (level query n : ℕ) (cells : List ℕ) (place : ℕ) : Type 0 where
  pub rank : ℕ
  pub below : rank < n
  pub same : ranked_cells s level query rank ≡ cells
  pub at : place ≡ before_query s level query + rank

-- the row of a query, by its first n classes
pub record IsRowOf (s : Schema) (level : ℕ) (groups : List (List ℕ)) (query n : ℕ) (row : List (Option ℕ)) : Type 0 where
  pub size : length row ≡ length groups
  pub each : (g : ℕ) → g < length groups
      → MatchOption (slice_index_or row g None) (HasNoClass s level query n (group_at groups g)) (IsClassPlace s level query n (group_at groups g))

-- the rows of a level's first n queries
abbrev pub AreRowsOf : Schema → ℕ → List (List ℕ) → ℕ → TermTable → Type 0
AreRowsOf s level groups n t = (query : ℕ) → query < n → IsRowOf s level groups query (class_count s level query) (row_at t query)

-- the table of a level
pub record IsTableOf (s : Schema) (level : ℕ) (groups : List (List ℕ)) (t : TermTable) : Type 0 where
  pub weights : t.weights ≡ map (weight_of (common_of s)) (queries_at s level)
  pub light : All (λ w. w ≤ 2 ^ 24) t.weights
  pub count : length t.places ≡ length (queries_at s level)
  pub rows : AreRowsOf s level groups (length (queries_at s level)) t
  pub few : length (queries_at s level) ≤ 8
  pub over_all : All (λ q. q.only ≡ []) (queries_at s level)

-- the places of a unit begin at this index
pub record BeginsAt (s : Schema) (sp : Spine) (unit first : ℕ) : Type 0 where
  pub number : ℕ
  pub here : number < length (units_at sp (level_of sp unit))
  pub unit_is : slice_index (units_at sp (level_of sp unit)) number ≡ unit
  pub first_is : first ≡ before_level s sp (level_of sp unit) + number * places_at s (level_of sp unit)
  pub limit : first ≤ 2 ^ 36

-- what the terms of a unit's groups are read from
pub record AreTermsAt (s : Schema) (sp : Spine) (t : Tree) (table : TermTable) (m : List ℤ) (unit first : ℕ) : Type 0 where
  pub level : level_of sp unit < length s.levels
  pub tree : IsTreeOf s (level_at s (level_of sp unit)) t
  pub table_is : IsTableOf s (level_of sp unit) t.groups table
  pub measured : AreMeasurementsOf s sp m
  pub begins : BeginsAt s sp unit first
