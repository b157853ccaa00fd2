use Rattle.tda_prices.proofs.MadeUp.{made_up}
use Rattle.tda_prices.proofs.writer.write_prices.Goals as goal

pub returns-then-is_err-clause-whole : goal.returns-then-is_err-clause-whole
returns-then-is_err-clause-whole c = made_up c.args.schema.now c.args.spine.now

pub returns-else-is_err-clause-whole : goal.returns-else-is_err-clause-whole
returns-else-is_err-clause-whole c = made_up c.args.schema.now c.args.spine.now
