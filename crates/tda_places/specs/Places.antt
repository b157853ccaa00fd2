-- The places of a release: for each unit, each query of its level and each class of the query.
use Rattle.std.specs.Prelude.{◌<◌, ◌==◌, ◌&&◌, ℕ, Bool, List, length, map, Option, position, Contains}
use Rattle.std.specs.List.{flat_map, range_with_len}
use Rattle.tda_model.specs.Schema.{Schema}
use Rattle.tda_model.specs.Groups.{classes_of}
use Rattle.tda_model.specs.Spine.{Spine, IsUnit, level_of, units_at}
use Rattle.tda_schema.specs.Stated.{queries_at, query_at}
use Rattle.tda_places.specs.declared.place.Place.{Place}

abbrev pub place : ℕ → ℕ → ℕ → Place
place unit query class = record { unit = unit; query = query; class = class }

-- the places of a unit of a level at a query: one for each class, which is named by its first cell
abbrev pub query_places : Schema → ℕ → ℕ → ℕ → List Place
query_places s level unit query = map (place unit query) (classes_of s (query_at s level query))

abbrev pub query_numbers : Schema → ℕ → List ℕ
query_numbers s level = range_with_len 0 (length (queries_at s level))

-- the places of a unit of a level
abbrev pub unit_places : Schema → ℕ → ℕ → List Place
unit_places s level unit = flat_map (query_places s level unit) (query_numbers s level)

-- the places of the units of a level
abbrev pub level_places : Schema → Spine → ℕ → List Place
level_places s sp level = flat_map (unit_places s level) (units_at sp level)

abbrev pub level_numbers : Schema → List ℕ
level_numbers s = range_with_len 0 (length s.levels)

-- all places: by level, then unit in file order, then query, then class
abbrev pub places_of : Schema → Spine → List Place
places_of s sp = flat_map (level_places s sp) (level_numbers s)

-- a unit, a query of its level and a class of the query
pub record IsPlace (s : Schema) (sp : Spine) (p : Place) : Type 0 where
  pub unit : IsUnit sp p.unit
  pub query : p.query < length (queries_at s (level_of sp p.unit))
  pub class : Contains (classes_of s (query_at s (level_of sp p.unit) p.query)) p.class

abbrev pub is_place : Place → Place → Bool
is_place p x = (x.unit == p.unit) && (x.query == p.query) && (x.class == p.class)

-- which of the places it is
abbrev pub index_of : Schema → Spine → Place → Option ℕ
index_of s sp p = position (is_place p) (places_of s sp)
