use Rattle.std.proofs.Common.{◌*◌, Some, drop}
use Rattle.std.specs.List.{flat_map}
use Rattle.tda_model.specs.Spine.{children_of}
use Rattle.tda_prices.specs.Parts.{child_rows, group_rows}
use Rattle.tda_prices.proofs.Writing.{Writes}
use Rattle.tda_prices.proofs.writer.push_children.Given as goal

abbrev pub invariant-loop-index : goal.invariant-loop-index
invariant-loop-index l = Writes (child_rows l.schema l.spine l.parent) l.prices (flat_map (group_rows l.schema l.spine (Some l.parent)) (drop l.index (children_of l.spine l.parent))) (drop (l.index * l.groups) l.prices) l.fn.out.items l.out.items
