use Rattle.tda_prices.proofs.FileLaws.{tables_read_back, tables_short}
use Rattle.tda_prices.proofs.tables.read_tables.Goals as goal

pub returns-clause-read_back : goal.returns-clause-read_back
returns-clause-read_back c = tables_read_back c.args.schema.now c.args.spine.now c.units.ensures.sound c.cells.ensures.limits.cells

pub returns-clause-short : goal.returns-clause-short
returns-clause-short c = tables_short c.args.schema.now c.args.spine.now c.units.ensures.sound c.cells.ensures.limits.cells
