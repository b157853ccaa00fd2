-- How facilities are written: a row for each block and kind that has some.
use Rattle.std.specs.Prelude.{codes, ℕ, ◌==◌, ◌&&◌, Bool, List, [], ◌∷◌, map, find, option_map, unwrap_or}
use Rattle.std.specs.Fmt.{decimal}
use Rattle.std.specs.List.{flat_map}
use Rattle.tda_io.specs.Csv.{Row}
use Rattle.tda_io.specs.Texts.{row_text}
use Rattle.tda_model.specs.Schema.{Schema}
use Rattle.tda_model.specs.Spine.{Spine, code_of}
use Rattle.tda_demo.specs.Names.{value_name}

-- so many facilities of a kind in a unit
pub record Entry : Type 0 where
  pub unit : ℕ
  pub kind : ℕ
  pub count : ℕ

abbrev pub entry_row : Schema → Spine → Entry → Row
entry_row s sp e = code_of sp e.unit ∷ value_name s 0 e.kind ∷ decimal e.count ∷ []

abbrev pub entry_rows : Schema → Spine → List Entry → List Row
entry_rows s sp entries = map (entry_row s sp) entries

abbrev pub header : Row
header = codes "block" ∷ codes "kind" ∷ codes "count" ∷ []

abbrev pub entries_text : Schema → Spine → List Entry → List ℕ
entries_text s sp entries = flat_map row_text (header ∷ entry_rows s sp entries)

abbrev pub is_of : ℕ → ℕ → Entry → Bool
is_of unit kind e = (unit == e.unit) && (kind == e.kind)

-- the facilities of a kind in a unit, by the first entry
abbrev pub count_of : List Entry → ℕ → ℕ → ℕ
count_of entries unit kind = unwrap_or (option_map (λ e. e.count) (find (is_of unit kind) entries)) 0
