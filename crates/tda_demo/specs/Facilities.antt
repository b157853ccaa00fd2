-- The demo's facilities, block by block. Blocks are numbered from 0 in file order.
use Rattle.std.specs.Prelude.{codes, ℕ, ◌%◌, ◌-◌, ◌==◌, Bool, List, [], ◌∷◌, ◌++◌, length, map, slice_index, if◌then◌else◌}
use Rattle.std.specs.List.{flat_map, range_with_len}
use Rattle.tda_io.specs.Csv.{Row}
use Rattle.tda_model.specs.Schema.{Schema}
use Rattle.tda_model.specs.Spine.{Spine, code_of, units_at}
use Rattle.tda_demo.specs.Names.{value_name}

abbrev pub block_count : Spine → ℕ
block_count sp = length (units_at sp (sp.depth - 1))

-- the unit that the block of a number is
abbrev pub block_unit : Spine → ℕ → ℕ
block_unit sp i = slice_index (units_at sp (sp.depth - 1)) i

abbrev pub block_code : Spine → ℕ → List ℕ
block_code sp i = code_of sp (block_unit sp i)

-- every third block has a dormitory, every fifth a prison
abbrev pub has_dormitory : ℕ → Bool
has_dormitory i = i % 3 == 0

abbrev pub has_prison : ℕ → Bool
has_prison i = i % 5 == 0

-- kind 1 is the dormitory's, kind 2 the prison's
abbrev pub kinds_where : Bool → Bool → List ℕ
kinds_where dormitory prison = (if dormitory then 1 ∷ [] else []) ++ (if prison then 2 ∷ [] else [])

abbrev pub facility_kinds : ℕ → List ℕ
facility_kinds i = kinds_where (has_dormitory i) (has_prison i)

-- one facility of a kind
abbrev pub facility_row : Schema → List ℕ → ℕ → Row
facility_row s code kind = code ∷ value_name s 0 kind ∷ codes "1" ∷ []

-- those of a block, by its code and number
abbrev pub block_facility_rows : Schema → List ℕ → ℕ → List Row
block_facility_rows s code i = map (facility_row s code) (facility_kinds i)

-- those of the first blocks, with these codes
abbrev pub facility_rows : Schema → (ℕ → List ℕ) → ℕ → List Row
facility_rows s code count = flat_map (λ i. block_facility_rows s (code i) i) (range_with_len 0 count)

abbrev pub header : Row
header = codes "block" ∷ codes "kind" ∷ codes "count" ∷ []
