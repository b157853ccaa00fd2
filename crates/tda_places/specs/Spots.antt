-- Where places stand, by arithmetic: before a place stand those of earlier levels, of earlier units of its level, of earlier queries of its unit, and of earlier classes of its query.
use Rattle.std.specs.Prelude.{◌≡◌, ◌+◌, ◌*◌, ◌<◌, ℕ, length, slice_index, sum_by}
use Rattle.std.specs.List.{range_with_len}
use Rattle.tda_model.specs.Schema.{Schema}
use Rattle.tda_model.specs.Groups.{classes_of}
use Rattle.tda_model.specs.Sizes.{places_at}
use Rattle.tda_model.specs.Spine.{Spine, units_at}
use Rattle.tda_schema.specs.Stated.{queries_at, query_at}
use Rattle.tda_places.specs.Places.{place}
use Rattle.tda_places.specs.declared.place.Place.{Place}
use Rattle.tda_places.specs.declared.spot.Spot.{Spot}

-- how many classes a query of a level has
abbrev pub class_count : Schema → ℕ → ℕ → ℕ
class_count s level query = length (classes_of s (query_at s level query))

-- how many places all units of a level have
abbrev pub level_size : Schema → Spine → ℕ → ℕ
level_size s sp level = length (units_at sp level) * places_at s level

-- how many places of a unit stand before those of a query
abbrev pub before_query : Schema → ℕ → ℕ → ℕ
before_query s level query = sum_by (class_count s level) (range_with_len 0 query)

-- how many places stand before those of a level
abbrev pub before_level : Schema → Spine → ℕ → ℕ
before_level s sp level = sum_by (level_size s sp) (range_with_len 0 level)

-- the place that stands there
abbrev pub place_of : Schema → Spine → Spot → Place
place_of s sp spot =
    place (slice_index (units_at sp spot.level) spot.unit) spot.query (slice_index (classes_of s (query_at s spot.level spot.query)) spot.class)

-- the place at the index stands there
pub record StandsAt (s : Schema) (sp : Spine) (index : ℕ) (spot : Spot) : Type 0 where
  pub level : spot.level < length s.levels
  pub unit : spot.unit < length (units_at sp spot.level)
  pub query : spot.query < length (queries_at s spot.level)
  pub class : spot.class < class_count s spot.level spot.query
  pub before : index ≡ before_level s sp spot.level + spot.unit * places_at s spot.level + before_query s spot.level spot.query + spot.class
