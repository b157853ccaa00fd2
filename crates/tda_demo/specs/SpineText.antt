-- How a spine is written: a row for each unit, in order.
use Rattle.std.specs.Prelude.{codes, ℕ, List, [], ◌∷◌, map, Some, None}
use Rattle.std.specs.List.{flat_map}
use Rattle.tda_io.specs.Csv.{Row}
use Rattle.tda_io.specs.Texts.{row_text}
use Rattle.tda_model.specs.Schema.{Schema}
use Rattle.tda_model.specs.Spine.{Spine, code_of, level_of, parent_of, unit_numbers}
use Rattle.tda_demo.specs.Names.{level_name}

-- the code of a unit's parent, and nothing where it has none
abbrev pub parent_code : Spine → ℕ → List ℕ
parent_code sp u = elim (parent_of sp u) [ Some p ↦ code_of sp p | None ↦ [] ]

abbrev pub unit_row : Schema → Spine → ℕ → Row
unit_row s sp u = code_of sp u ∷ level_name s (level_of sp u) ∷ parent_code sp u ∷ []

abbrev pub unit_rows : Schema → Spine → List Row
unit_rows s sp = map (unit_row s sp) (unit_numbers sp)

abbrev pub header : Row
header = codes "unit" ∷ codes "level" ∷ codes "parent" ∷ []

abbrev pub spine_text : Schema → Spine → List ℕ
spine_text s sp = flat_map row_text (header ∷ unit_rows s sp)
