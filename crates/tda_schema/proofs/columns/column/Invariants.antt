use Rattle.std.proofs.Common.{◌≡◌, ◌/◌, ◌%◌, map}
use Rattle.std.specs.List.{range_with_len}
use Rattle.tda_schema.proofs.columns.column.Given as goal

abbrev pub invariant-loop-cell : goal.invariant-loop-cell
invariant-loop-cell l = l.values.items ≡ map (λ cell. cell / l.stride % l.size) (range_with_len 0 l.cell)
