use Rattle.tda_tool.proofs.Released.{runs_with}
use Rattle.tda_tool.proofs.run.ran.Goals as goal

pub returns-in-Ok-clause-noise : goal.returns-in-Ok-clause-noise
returns-in-Ok-clause-noise c = runs_with c.args.counted _ c.in-Ok.drawn c.done.result c.in-Ok.ensures.drawn c.done.ensures.cause c.done.ensures.made
