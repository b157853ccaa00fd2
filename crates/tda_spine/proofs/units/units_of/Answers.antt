use Rattle.std.proofs.Common.{arith}
use Rattle.tda_spine.proofs.Faults.{each_fine}
use Rattle.tda_spine.proofs.units.units_of.Goals as goal

pub unit_of-requires-clause-code : goal.unit_of-requires-clause-code
unit_of-requires-clause-code c =
    (each_fine c.args.schema.now c.args.rows.now c.requires c.loop-row.row (omega arith)).code
