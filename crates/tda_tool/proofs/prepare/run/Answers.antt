use Rattle.std.proofs.Common.{map, string_bytes}
use Rattle.tda_command.specs.declared.words.Command.TheVariants.{Run}
use Rattle.tda_tool.proofs.CommandFiles.{survey_reads}
use Rattle.tda_tool.proofs.Surveyed.{can_be_run}
use Rattle.tda_tool.proofs.Prepared.{run_done, draw_stopped}
use Rattle.tda_tool.proofs.prepare.run.Goals as goal

pub read_counted-requires-clause-reads : goal.read_counted-requires-clause-reads
read_counted-requires-clause-reads g c = survey_reads (map string_bytes c.args.words.now) Run tt c.requires.command

pub ran-requires : goal.ran-requires
ran-requires g c = let survey = c.in-Ok.ensures.survey in can_be_run survey.0 c.in-Ok.counted survey.1

pub returns-in-Ok-clause-suits : goal.returns-in-Ok-clause-suits
returns-in-Ok-clause-suits g c =
    let survey = c.in-Ok.ensures.survey in
    (run_done (map string_bytes c.args.words.now) _ survey.0 c.in-Ok.counted survey.1 survey.2 c.requires.command _ _ _ c.ran.result c.in-Ok.ensures.asked c.in-Ok.ensures.cause c.ran.ensures.noise c.ran.ensures.one).suits

pub returns-in-Ok-clause-asked : goal.returns-in-Ok-clause-asked
returns-in-Ok-clause-asked g c =
    let survey = c.in-Ok.ensures.survey in
    (run_done (map string_bytes c.args.words.now) _ survey.0 c.in-Ok.counted survey.1 survey.2 c.requires.command _ _ _ c.ran.result c.in-Ok.ensures.asked c.in-Ok.ensures.cause c.ran.ensures.noise c.ran.ensures.one).asked

pub returns-in-Err-clause-suits : goal.returns-in-Err-clause-suits
returns-in-Err-clause-suits g c =
    (draw_stopped Run tt (map string_bytes c.args.words.now) c.requires.command _ _ _ _ c.in-Err.stop c.stopped.result c.in-Err.ensures.survey c.in-Err.ensures.asked c.in-Err.ensures.cause c.stopped.ensures).suits

pub returns-in-Err-clause-asked : goal.returns-in-Err-clause-asked
returns-in-Err-clause-asked g c =
    (draw_stopped Run tt (map string_bytes c.args.words.now) c.requires.command _ _ _ _ c.in-Err.stop c.stopped.result c.in-Err.ensures.survey c.in-Err.ensures.asked c.in-Err.ensures.cause c.stopped.ensures).asked
