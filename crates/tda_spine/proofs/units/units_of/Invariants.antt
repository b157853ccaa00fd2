use Rattle.std.proofs.Common.{◌≡◌, take, map}
use Rattle.tda_spine.specs.Rows.{unit_of}
use Rattle.tda_spine.proofs.units.units_of.Given as goal

abbrev pub invariant-loop-row : goal.invariant-loop-row
invariant-loop-row l = l.units.items ≡ map (unit_of l.schema l.rows) (take l.row l.rows)
