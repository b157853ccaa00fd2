use Rattle.std.proofs.Common.{map, string_bytes}
use Rattle.tda_inputs.specs.Reading.{inputs_in}
use Rattle.tda_tool.proofs.CommandFiles.{fit_reads}
use Rattle.tda_tool.proofs.Prepared.{fit_done, fit_stopped}
use Rattle.tda_tool.proofs.prepare.fit.Goals as goal

pub returns-in-Ok-clause-suits : goal.returns-in-Ok-clause-suits
returns-in-Ok-clause-suits g c =
    (fit_done (map string_bytes c.args.words.now) c.requires.command _ _ _ _ (inputs_in c.in-Ok.inputs) c.fitted.result c.in-Ok.ensures.inputs.1 c.in-Ok.ensures.asked c.in-Ok.ensures.cause c.fitted.ensures.cause c.fitted.ensures.made).suits

pub returns-in-Ok-clause-asked : goal.returns-in-Ok-clause-asked
returns-in-Ok-clause-asked g c =
    (fit_done (map string_bytes c.args.words.now) c.requires.command _ _ _ _ (inputs_in c.in-Ok.inputs) c.fitted.result c.in-Ok.ensures.inputs.1 c.in-Ok.ensures.asked c.in-Ok.ensures.cause c.fitted.ensures.cause c.fitted.ensures.made).asked

pub returns-in-Err-clause-suits : goal.returns-in-Err-clause-suits
returns-in-Err-clause-suits g c =
    (fit_stopped (map string_bytes c.args.words.now) c.requires.command _ _ _ _ c.in-Err.stop c.stopped.result c.in-Err.ensures.inputs c.in-Err.ensures.asked c.in-Err.ensures.cause c.stopped.ensures).suits

pub returns-in-Err-clause-asked : goal.returns-in-Err-clause-asked
returns-in-Err-clause-asked g c =
    (fit_stopped (map string_bytes c.args.words.now) c.requires.command _ _ _ _ c.in-Err.stop c.stopped.result c.in-Err.ensures.inputs c.in-Err.ensures.asked c.in-Err.ensures.cause c.stopped.ensures).asked

pub read_inputs-requires-clause-reads : goal.read_inputs-requires-clause-reads
read_inputs-requires-clause-reads g c = fit_reads (map string_bytes c.args.words.now) c.requires.command

pub fitted-requires : goal.fitted-requires
fitted-requires g c = c.in-Ok.ensures.inputs.0
