use Rattle.std.proofs.Common.{map, string_bytes}
use Rattle.tda_tool.specs.Answer.{outputs_of}
use Rattle.tda_tool.proofs.Begun.{write_asks, report_begun, begun_then}
use Rattle.tda_tool.proofs.Writes.{published}
use Rattle.tda_tool.proofs.publish.publish.Goals as goal

pub returns-in-Ok-clause-written : goal.returns-in-Ok-clause-written
returns-in-Ok-clause-written g c =
    published (outputs_of (map string_bytes c.args.words.now) c.args.answer.now) _ c.deref.result.now c.args.answer.now.report.items c.write_whole.result _ _ _
    c.in-Ok.ensures.written c.deref.ensures.value c.write_whole.ensures.ok

pub returns-in-Ok-clause-begun : goal.returns-in-Ok-clause-begun
returns-in-Ok-clause-begun g c =
    begun_then _ _ _ _ c.in-Ok.ensures.begun (report_begun _ _ (write_asks _ _ _ _ _ c.write_whole.ensures.ok c.write_whole.ensures.err))
