use Rattle.std.proofs.Common.{arith}
use Rattle.tda_out.proofs.TablesDetermined.{determined}
use Rattle.tda_out.proofs.WrittenRows.{make_up_file}
use Rattle.tda_out.proofs.tables_writer.write_tables.Goals as goal

pub returns-then-is_err-clause-whole : goal.returns-then-is_err-clause-whole
returns-then-is_err-clause-whole c = make_up_file c.args.schema.now c.args.spine.now

pub returns-else-is_err-clause-whole : goal.returns-else-is_err-clause-whole
returns-else-is_err-clause-whole c = make_up_file c.args.schema.now c.args.spine.now

pub returns-then-is_err-clause-determined : goal.returns-then-is_err-clause-determined
returns-then-is_err-clause-determined c = determined c.args.spine.now c.args.schema.now c.units.ensures.sound (omega (arith, c.cells.ensures.limits.cells))

pub returns-else-is_err-clause-determined : goal.returns-else-is_err-clause-determined
returns-else-is_err-clause-determined c = determined c.args.spine.now c.args.schema.now c.units.ensures.sound (omega (arith, c.cells.ensures.limits.cells))
