use Rattle.std.proofs.Common.{ap, ◌∙◌, ◌++◌, ◌∷◌, []}
use Rattle.tda_inputs.specs.Reading.{inputs_in}
use Rattle.tda_tool.proofs.Released.{run_told}
use Rattle.tda_tool.proofs.run.done.Goals as goal

pub returns-clause-made : goal.returns-clause-made
returns-clause-made c =
    run_told c.args.counted.schema c.args.counted.spine c.args.counted.facilities _ c.args.drawn.measurements c.args.drawn.taken (inputs_in c.in_ok-inputs.inputs) c.in_ok-texts.texts c.in_ok-outputs.outputs.items
    c.new.result c.new-2.result _ c.in_ok-inputs.ensures.made c.in_ok-texts.ensures.texts c.in_ok-texts.ensures.read_back c.in_ok-outputs.ensures.outputs c.new.ensures.name c.new.ensures.text c.new-2.ensures.name c.new-2.ensures.text
    (c.in_ok-push-2.ensures.items ∙ ap (λ xs. xs ++ c.new-2.result ∷ []) c.in_ok-push.ensures.items) c.in_ok-report.ensures c.in_ok-outputs.ensures.within
    c.in_ok-outputs.ensures.back c.requires.counted.limits.places c.requires.counted.enough
