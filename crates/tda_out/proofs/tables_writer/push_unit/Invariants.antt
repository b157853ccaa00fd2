use Rattle.std.proofs.Common.{◌≡◌, ◌++◌, slice_index}
use Rattle.std.specs.List.{flat_map, range_with_len}
use Rattle.tda_model.specs.TablesText.{count_row}
use Rattle.tda_out.proofs.tables_writer.push_unit.Given as goal

abbrev pub invariant-loop-cell : goal.invariant-loop-cell
invariant-loop-cell l = l.out.items ≡ l.fn.out.items ++ flat_map (λ j. count_row l.code j (slice_index l.counts j)) (range_with_len 0 l.cell)
