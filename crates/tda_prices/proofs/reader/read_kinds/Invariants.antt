use Rattle.std.proofs.Common.{None, drop}
use Rattle.std.specs.List.{range_with_len}
use Rattle.tda_model.specs.Groups.{kind_count}
use Rattle.tda_prices.specs.Items.{OfKind}
use Rattle.tda_prices.specs.Left.{Reads}
use Rattle.tda_prices.specs.Parts.{kind_rows, rows_of}
use Rattle.tda_prices.proofs.reader.read_kinds.Given as goal

abbrev pub invariant-loop-kind : goal.invariant-loop-kind
invariant-loop-kind l =
    Reads (kind_rows l.schema l.spine) (rows_of l.spine None OfKind (drop l.kind (range_with_len 0 (kind_count l.schema)))) l.initial.rows l.rows l.initial.prices.items l.prices.items
