use Rattle.std.proofs.Common.{map, string_bytes}
use Rattle.tda_inputs.specs.Reading.{case_in}
use Rattle.tda_tool.proofs.CommandFiles.{case_reads}
use Rattle.tda_tool.proofs.Prepared.{audit_done, audit_stopped}
use Rattle.tda_tool.proofs.prepare.audit.Goals as goal

pub read_evidence-requires-clause-reads : goal.read_evidence-requires-clause-reads
read_evidence-requires-clause-reads g c = case_reads (map string_bytes c.args.words.now) c.requires.command

pub audited-requires : goal.audited-requires
audited-requires g c = c.in-Ok.ensures.evidence.0

pub returns-in-Ok-clause-suits : goal.returns-in-Ok-clause-suits
returns-in-Ok-clause-suits g c =
    (audit_done (map string_bytes c.args.words.now) c.requires.command _ _ (case_in c.in-Ok.evidence) c.in-Ok.ensures.evidence.1 _ _ c.audited.result c.in-Ok.ensures.asked c.in-Ok.ensures.cause c.audited.ensures).suits

pub returns-in-Ok-clause-asked : goal.returns-in-Ok-clause-asked
returns-in-Ok-clause-asked g c =
    (audit_done (map string_bytes c.args.words.now) c.requires.command _ _ (case_in c.in-Ok.evidence) c.in-Ok.ensures.evidence.1 _ _ c.audited.result c.in-Ok.ensures.asked c.in-Ok.ensures.cause c.audited.ensures).asked

pub returns-in-Ok-clause-cause : goal.returns-in-Ok-clause-cause
returns-in-Ok-clause-cause g c =
    (audit_done (map string_bytes c.args.words.now) c.requires.command _ _ (case_in c.in-Ok.evidence) c.in-Ok.ensures.evidence.1 _ _ c.audited.result c.in-Ok.ensures.asked c.in-Ok.ensures.cause c.audited.ensures).cause

pub returns-in-Err-clause-suits : goal.returns-in-Err-clause-suits
returns-in-Err-clause-suits g c =
    (audit_stopped (map string_bytes c.args.words.now) c.requires.command _ _ _ _ c.in-Err.stop c.stopped.result c.in-Err.ensures.evidence c.in-Err.ensures.asked c.in-Err.ensures.cause c.stopped.ensures).suits

pub returns-in-Err-clause-asked : goal.returns-in-Err-clause-asked
returns-in-Err-clause-asked g c =
    (audit_stopped (map string_bytes c.args.words.now) c.requires.command _ _ _ _ c.in-Err.stop c.stopped.result c.in-Err.ensures.evidence c.in-Err.ensures.asked c.in-Err.ensures.cause c.stopped.ensures).asked
