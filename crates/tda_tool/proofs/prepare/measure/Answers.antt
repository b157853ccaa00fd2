use Rattle.std.proofs.Common.{map, string_bytes}
use Rattle.tda_command.specs.declared.words.Command.TheVariants.{Measure}
use Rattle.tda_tool.proofs.CommandFiles.{survey_reads}
use Rattle.tda_tool.proofs.Surveyed.{can_be_measured}
use Rattle.tda_tool.proofs.Prepared.{measure_done, draw_stopped}
use Rattle.tda_tool.proofs.prepare.measure.Goals as goal

pub read_counted-requires-clause-reads : goal.read_counted-requires-clause-reads
read_counted-requires-clause-reads g c = survey_reads (map string_bytes c.args.words.now) Measure tt c.requires.command

pub measured-requires : goal.measured-requires
measured-requires g c = let survey = c.in-Ok.ensures.survey in can_be_measured survey.0 c.in-Ok.counted survey.1

pub returns-in-Ok-clause-suits : goal.returns-in-Ok-clause-suits
returns-in-Ok-clause-suits g c =
    let survey = c.in-Ok.ensures.survey in
    (measure_done (map string_bytes c.args.words.now) _ survey.0 c.in-Ok.counted survey.1 survey.2 c.requires.command _ _ _ c.measured.result c.in-Ok.ensures.asked c.in-Ok.ensures.cause c.measured.ensures.noise c.measured.ensures.one).suits

pub returns-in-Ok-clause-asked : goal.returns-in-Ok-clause-asked
returns-in-Ok-clause-asked g c =
    let survey = c.in-Ok.ensures.survey in
    (measure_done (map string_bytes c.args.words.now) _ survey.0 c.in-Ok.counted survey.1 survey.2 c.requires.command _ _ _ c.measured.result c.in-Ok.ensures.asked c.in-Ok.ensures.cause c.measured.ensures.noise c.measured.ensures.one).asked

pub returns-in-Err-clause-suits : goal.returns-in-Err-clause-suits
returns-in-Err-clause-suits g c =
    (draw_stopped Measure tt (map string_bytes c.args.words.now) c.requires.command _ _ _ _ c.in-Err.stop c.stopped.result c.in-Err.ensures.survey c.in-Err.ensures.asked c.in-Err.ensures.cause c.stopped.ensures).suits

pub returns-in-Err-clause-asked : goal.returns-in-Err-clause-asked
returns-in-Err-clause-asked g c =
    (draw_stopped Measure tt (map string_bytes c.args.words.now) c.requires.command _ _ _ _ c.in-Err.stop c.stopped.result c.in-Err.ensures.survey c.in-Err.ensures.asked c.in-Err.ensures.cause c.stopped.ensures).asked
