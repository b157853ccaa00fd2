-- The rows of a fit, part by part.
use Rattle.std.specs.Prelude.{ℕ, ℤ, List, ◌∷◌, map, Option, None, Some}
use Rattle.std.specs.List.{flat_map, range_with_len, zip}
use Rattle.tda_io.specs.Csv.{Row}
use Rattle.tda_io.specs.Texts.{row_text}
use Rattle.tda_model.specs.Schema.{Schema}
use Rattle.tda_model.specs.Cells.{possible_cells}
use Rattle.tda_model.specs.Groups.{kind_count}
use Rattle.tda_model.specs.Sizes.{groups_at}
use Rattle.tda_model.specs.Spine.{Spine, level_of, units_at, children_of}
use Rattle.tda_prices.specs.Items.{Item, OfState, OfKind, OfCell, OfGroup}
use Rattle.tda_prices.specs.Numbered.{number_row}
use Rattle.tda_prices.specs.PricesText.{fit_field, item_fields}

-- how the rows of these items of a fit name them
abbrev pub rows_of : Spine → Option ℕ → (ℕ → Item) → List ℕ → List Row
rows_of sp fit item numbers = map (λ n. fit_field sp fit ∷ item_fields sp (item n)) numbers

abbrev pub state_rows : Spine → List Row
state_rows sp = rows_of sp None OfState (units_at sp 1)

abbrev pub kind_rows : Schema → Spine → List Row
kind_rows s sp = rows_of sp None OfKind (range_with_len 0 (kind_count s))

abbrev pub cell_rows : Schema → Spine → ℕ → List Row
cell_rows s sp p = rows_of sp (Some p) OfCell (possible_cells s)

abbrev pub group_rows : Schema → Spine → Option ℕ → ℕ → List Row
group_rows s sp fit u = rows_of sp fit (OfGroup u) (range_with_len 0 (groups_at s (level_of sp u)))

-- of all children of a unit
abbrev pub child_rows : Schema → Spine → ℕ → List Row
child_rows s sp p = flat_map (group_rows s sp (Some p)) (children_of sp p)

-- rows with a number behind each
abbrev pub numbered_text : List Row → List ℤ → List ℕ
numbered_text rows numbers = flat_map (λ x. row_text (number_row x.0 x.1)) (zip rows numbers)
