use Rattle.std.proofs.Common.{drop}
use Rattle.std.specs.List.{range_with_len}
use Rattle.tda_model.specs.Sizes.{groups_at}
use Rattle.tda_model.specs.Spine.{level_of}
use Rattle.tda_prices.specs.Items.{OfGroup}
use Rattle.tda_prices.specs.Left.{Reads}
use Rattle.tda_prices.specs.Parts.{group_rows, rows_of}
use Rattle.tda_prices.proofs.reader.read_groups.Given as goal

abbrev pub invariant-loop-group : goal.invariant-loop-group
invariant-loop-group l =
    Reads (group_rows l.schema l.spine l.fit l.unit) (rows_of l.spine l.fit (OfGroup l.unit) (drop l.group (range_with_len 0 (groups_at l.schema (level_of l.spine l.unit))))) l.initial.rows l.rows l.initial.prices.items l.prices.items
