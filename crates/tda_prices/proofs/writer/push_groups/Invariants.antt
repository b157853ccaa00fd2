use Rattle.std.proofs.Common.{drop}
use Rattle.std.specs.List.{range_with_len}
use Rattle.tda_model.specs.Sizes.{groups_at}
use Rattle.tda_model.specs.Spine.{level_of}
use Rattle.tda_prices.specs.Items.{OfGroup}
use Rattle.tda_prices.specs.Parts.{group_rows, rows_of}
use Rattle.tda_prices.proofs.Writing.{Writes}
use Rattle.tda_prices.proofs.writer.push_groups.Given as goal

abbrev pub invariant-loop-group : goal.invariant-loop-group
invariant-loop-group l = Writes (group_rows l.schema l.spine l.fit l.unit) l.prices (rows_of l.spine l.fit (OfGroup l.unit) (drop l.group (range_with_len 0 (groups_at l.schema (level_of l.spine l.unit))))) (drop l.group l.prices) l.fn.out.items l.out.items
