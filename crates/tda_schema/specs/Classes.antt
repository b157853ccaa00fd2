-- The groups of a level as families of disjoint sets of possible cells: all of them together, those of each kind, and the classes of each query.
use Rattle.std.specs.Prelude.{◌≡◌, ◌==◌, ◌&&◌, true, List, ◌∷◌, map}
use Rattle.std.specs.List.{list_all}
use Rattle.tda_model.specs.Schema.{Entry, Query, Level, Schema}
use Rattle.tda_model.specs.Cells.{cell_count, is_possible, kind_of}
use Rattle.tda_model.specs.Groups.{alike_at, one_class}
use Rattle.tda_sets.specs.Family.{Names, family_of, firsts, is_member, are_together}
use Rattle.tda_schema.specs.Parts.{QueryParts}
use Rattle.tda_schema.specs.Stated.{IsLookedUp, IsLevelOf}

-- all possible cells
abbrev pub whole_family : Schema → Names
whole_family s = family_of (cell_count s) (is_possible s) (λ i j. true)

-- the possible cells of each kind
abbrev pub kind_family : Schema → Names
kind_family s = family_of (cell_count s) (is_possible s) (λ i j. kind_of s i == kind_of s j)

-- the classes of a query over all possible cells
abbrev pub query_family : Schema → Query → Names
query_family s q = family_of (cell_count s) (is_possible s) (one_class s q)

abbrev pub level_families : Schema → Level → List Names
level_families s l = whole_family s ∷ kind_family s ∷ map (query_family s) l.queries

-- these are the families of a level of the schema
pub record AreFamiliesOf (s : Schema) (l : Level) (families : List Names) : Type 0 where
  pub looked_up : IsLookedUp s
  pub level : IsLevelOf s l
  pub value : families ≡ level_families s l

-- the sets of a family, each split where two cells differ at an entry
abbrev pub split_by : Schema → Names → Entry → Names
split_by s names entry = family_of (cell_count s) (is_member names) (λ i j. are_together names i j && alike_at s i j entry)

-- the possible cells that are alike at each of some entries
abbrev pub entries_family : Schema → List Entry → Names
entries_family s by = family_of (cell_count s) (is_possible s) (λ i j. list_all (alike_at s i j) by)

-- a query's classes, as they are kept
abbrev pub family_parts : Names → QueryParts
family_parts names = record { class_of = names; classes = firsts names }
