use Rattle.std.proofs.Common.{◌∙◌}
use Rattle.tda_tool.proofs.Released.{same_inputs}
use Rattle.tda_tool.proofs.run.published.Goals as goal

pub returns-clause-made : goal.returns-clause-made
returns-clause-made c =
    same_inputs c.args.counted.schema c.args.counted.spine c.args.measurements c.args.counted.facilities _ c.in_ok-invariants.invariants c.in_ok-invariants.ensures.kept.0 (c.in_ok-invariants.ensures.kept.1 ∙ c.in_ok-totals.ensures.totals)
