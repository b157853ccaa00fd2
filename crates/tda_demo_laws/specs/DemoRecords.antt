-- The records that the demo's file states: those of each block's persons.
use Rattle.std.specs.Prelude.{ℕ, List, map}
use Rattle.std.specs.List.{flat_map, range_with_len}
use Rattle.tda_model.specs.Spine.{Spine}
use Rattle.tda_records.specs.declared.records.Record.{Record}
use Rattle.tda_demo.specs.Facilities.{block_count, block_unit}
use Rattle.tda_demo.specs.Persons.{block_persons}

abbrev pub block_records : Spine → (ℕ → ℕ) → ℕ → List Record
block_records sp words i = map (λ c. record { block = block_unit sp i; cell = c }) (block_persons words i)

abbrev pub records : Spine → (ℕ → ℕ) → List Record
records sp words = flat_map (block_records sp words) (range_with_len 0 (block_count sp))
