use Rattle.std.proofs.Common.{None, drop}
use Rattle.std.specs.List.{range_with_len}
use Rattle.tda_model.specs.Groups.{kind_count}
use Rattle.tda_prices.specs.Items.{OfKind}
use Rattle.tda_prices.specs.Parts.{kind_rows, rows_of}
use Rattle.tda_prices.proofs.Writing.{Writes}
use Rattle.tda_prices.proofs.writer.push_kinds.Given as goal

abbrev pub invariant-loop-kind : goal.invariant-loop-kind
invariant-loop-kind l = Writes (kind_rows l.schema l.spine) l.prices (rows_of l.spine None OfKind (drop l.kind (range_with_len 0 (kind_count l.schema)))) (drop l.kind l.prices) l.fn.out.items l.out.items
