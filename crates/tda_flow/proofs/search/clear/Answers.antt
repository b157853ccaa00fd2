use Rattle.std.proofs.Common.{length, arith}
use Rattle.tda_flow.proofs.Views.{all_none}
use Rattle.tda_flow.proofs.search.clear.Goals as goal

pub returns : goal.returns
returns c = all_none c.loop-mark.marks (length c.args.marks.now) (omega arith) (λ k l. c.loop-mark.invariant k (omega arith))
