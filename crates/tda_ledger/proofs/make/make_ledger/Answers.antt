use Rattle.tda_ledger.proofs.Rows.{one_more_level}
use Rattle.tda_ledger.proofs.make.make_ledger.Goals as goal

pub loop-level-preserved : goal.loop-level-preserved
loop-level-preserved c = one_more_level c.args.schema.now c.loop-level.level c.loop-level.rows.items c.push_level.new.rows.items c.loop-level.invariant c.in_ok-push_level.ensures
