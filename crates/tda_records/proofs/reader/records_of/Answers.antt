use Rattle.tda_records.proofs.Gathering.{goes_on}
use Rattle.tda_records.proofs.reader.records_of.Goals as goal

pub loop-records-preserved : goal.loop-records-preserved
loop-records-preserved c =
    let takes = rw c.if-branch.true at c.in_ok-next_row.ensures in
    let said = c.in-Ok.ensures in
    rw c.in_ok-push-in-Ok.ensures.items
    (goes_on c.args.schema.now c.args.spine.now c.args.rows.now c.loop-records.rows c.next_row.new.self c.loop-records.records.items c.requires.number c.loop-records.invariant takes c.in-Ok.record said.fine said.ok said.is said.size)
