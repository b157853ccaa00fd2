use Rattle.std.proofs.Common.{arith}
use Rattle.tda_places.proofs.Written.{read_back, text_length}
use Rattle.tda_places.proofs.writer.write_measurements.Goals as goal

pub returns-then-is_err-clause-read_back : goal.returns-then-is_err-clause-read_back
returns-then-is_err-clause-read_back c =
    read_back c.args.schema.now c.args.spine.now c.args.m.now c.requires.measured c.units.ensures.sound c.levels.ensures.queries (omega (arith, c.cells.ensures.limits.cells))

pub returns-else-is_err-clause-read_back : goal.returns-else-is_err-clause-read_back
returns-else-is_err-clause-read_back c =
    read_back c.args.schema.now c.args.spine.now c.args.m.now c.requires.measured c.units.ensures.sound c.levels.ensures.queries (omega (arith, c.cells.ensures.limits.cells))

pub returns-then-is_err-clause-limit : goal.returns-then-is_err-clause-limit
returns-then-is_err-clause-limit c =
    text_length c.args.schema.now c.args.spine.now c.args.m.now c.requires.measured c.units.ensures.sound c.levels.ensures.queries c.requires.belong c.cells.ensures.limits.cells

pub returns-else-is_err-clause-limit : goal.returns-else-is_err-clause-limit
returns-else-is_err-clause-limit c =
    text_length c.args.schema.now c.args.spine.now c.args.m.now c.requires.measured c.units.ensures.sound c.levels.ensures.queries c.requires.belong c.cells.ensures.limits.cells
