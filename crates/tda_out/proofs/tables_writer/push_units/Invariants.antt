use Rattle.std.proofs.Common.{◌≡◌, ◌++◌, slice_index}
use Rattle.std.specs.List.{flat_map, range_with_len}
use Rattle.tda_model.specs.Spine.{code_of}
use Rattle.tda_model.specs.TablesText.{table_rows}
use Rattle.tda_out.specs.Written.{table_at}
use Rattle.tda_out.proofs.tables_writer.push_units.Given as goal

abbrev pub invariant-loop-place : goal.invariant-loop-place
invariant-loop-place l =
    l.out.items ≡ l.fn.out.items ++ flat_map (λ place. table_rows l.schema (code_of l.spine (slice_index l.units place)) (table_at l.schema l.counts place)) (range_with_len 0 l.place)
