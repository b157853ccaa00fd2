-- The facilities that the demo's file states: of each kind in each block at most one.
use Rattle.std.specs.Prelude.{ℕ, List, map}
use Rattle.std.specs.List.{flat_map, range_with_len}
use Rattle.tda_model.specs.Spine.{Spine}
use Rattle.tda_demo.specs.Facilities.{facility_kinds, block_count, block_unit}
use Rattle.tda_demo_laws.specs.FacilitiesText.{Entry}

abbrev pub block_facilities : Spine → ℕ → List Entry
block_facilities sp i = map (λ kind. record { unit = block_unit sp i; kind = kind; count = 1 }) (facility_kinds i)

abbrev pub facilities : Spine → List Entry
facilities sp = flat_map (block_facilities sp) (range_with_len 0 (block_count sp))
