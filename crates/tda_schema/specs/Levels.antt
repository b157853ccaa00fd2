-- The parts of levels, with their groups as the sets of families.
use Rattle.std.specs.Prelude.{ℕ, List, length, map, Result, Ok, Err, if◌then◌else◌}
use Rattle.std.specs.List.{list_all}
use Rattle.tda_model.specs.Schema.{Level, Schema}
use Rattle.tda_model.specs.Groups.{each_once}
use Rattle.tda_sets.specs.Nested.{all_sets}
use Rattle.tda_schema.specs.declared.fault.SchemaFault.{SchemaFault}
use Rattle.tda_schema.specs.declared.fault.SchemaFault.TheVariants.{NotNested}
use Rattle.tda_schema.specs.Classes.{level_families}
use Rattle.tda_schema.specs.Parts.{LevelParts, query_parts, place_count, level_is_nested}

-- how many different sets the families of a level have: its groups, where each kind has a possible cell
abbrev pub family_count : Schema → Level → ℕ
family_count s l = length (each_once (all_sets (level_families s l)))

abbrev pub family_level : Schema → Level → LevelParts
family_level s l = record { queries = map (query_parts s) l.queries; groups = family_count s l; places = place_count s l }

-- the parts of a level whose groups are nested
abbrev pub level_parted : Schema → Level → Result LevelParts SchemaFault
level_parted s l = if level_is_nested s l then Ok (family_level s l) else Err NotNested

abbrev pub levels_parted : Schema → List Level → Result (List LevelParts) SchemaFault
levels_parted s levels = if list_all (level_is_nested s) levels then Ok (map (family_level s) levels) else Err NotNested
