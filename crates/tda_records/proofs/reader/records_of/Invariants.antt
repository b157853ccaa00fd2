use Rattle.std.proofs.Common.{length}
use Rattle.tda_records.proofs.Gathering.{Gathers}
use Rattle.tda_records.proofs.reader.records_of.Given as goal

abbrev pub invariant-loop-records : goal.invariant-loop-records
invariant-loop-records l = Gathers l.schema l.spine l.initial.rows l.rows l.records.items

abbrev pub decreases-loop-records : goal.decreases-loop-records
decreases-loop-records l = length l.rows.rest
