use Rattle.std.proofs.Common.{length, arith}
use Rattle.tda_cancel.proofs.Lists.{all_same}
use Rattle.tda_cancel.proofs.rows.set_all.Goals as goal

pub returns : goal.returns
returns g c = all_same c.loop-entry.entries (length c.args.entries.now) c.args.value (omega arith) (λ k l. c.loop-entry.invariant k (omega arith))
