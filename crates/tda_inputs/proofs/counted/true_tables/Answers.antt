use Rattle.tda_inputs.proofs.Agreed.{true_counts}
use Rattle.tda_inputs.proofs.counted.true_tables.Goals as goal

pub returns-in-Ok-clause-ok : goal.returns-in-Ok-clause-ok
returns-in-Ok-clause-ok c =
    true_counts c.args.schema.now c.args.spine.now c.args.records.now _ c.requires c.in-Ok.ensures.tables c.in-Ok.ensures.counts c.in-Ok.ensures.blocks c.in-Ok.ensures.persons c.in-Ok.ensures.states
