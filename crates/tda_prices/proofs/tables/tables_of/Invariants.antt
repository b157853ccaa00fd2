use Rattle.std.proofs.Common.{length}
use Rattle.tda_prices.proofs.TablesGather.{Gathers}
use Rattle.tda_prices.proofs.tables.tables_of.Given as goal

abbrev pub invariant-loop-tables : goal.invariant-loop-tables
invariant-loop-tables l = Gathers l.schema l.spine l.initial.rows l.rows l.tables l.last

abbrev pub decreases-loop-tables : goal.decreases-loop-tables
decreases-loop-tables l = length l.rows.rest
