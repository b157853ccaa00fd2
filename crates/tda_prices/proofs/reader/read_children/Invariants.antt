use Rattle.std.proofs.Common.{Some, drop}
use Rattle.std.specs.List.{flat_map}
use Rattle.tda_prices.specs.Left.{Reads}
use Rattle.tda_prices.specs.Parts.{child_rows, group_rows}
use Rattle.tda_prices.proofs.reader.read_children.Given as goal

abbrev pub invariant-loop-child : goal.invariant-loop-child
invariant-loop-child l =
    Reads (child_rows l.schema l.spine l.parent) (flat_map (group_rows l.schema l.spine (Some l.parent)) (drop l.child-index l.child-items)) l.initial.rows l.rows l.initial.prices.items l.prices.items
