use Rattle.tda_tool.proofs.Begun.{write_asks, report_begun}
use Rattle.tda_tool.proofs.publish.tell_memory.Goals as goal

pub returns-in-Err-Failed-clause-begun : goal.returns-in-Err-Failed-clause-begun
returns-in-Err-Failed-clause-begun g c = report_begun _ _ (write_asks _ _ _ _ _ c.write_whole.ensures.ok c.write_whole.ensures.err)

pub returns-in-Ok-2-clause-begun : goal.returns-in-Ok-2-clause-begun
returns-in-Ok-2-clause-begun g c = report_begun _ _ (write_asks _ _ _ _ _ c.write_whole.ensures.ok c.write_whole.ensures.err)
