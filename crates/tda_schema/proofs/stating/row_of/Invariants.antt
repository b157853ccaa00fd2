use Rattle.std.proofs.Common.{◌≡◌, take}
use Rattle.tda_schema.specs.Stating as spec
use Rattle.tda_schema.proofs.stating.row_of.Given as goal

abbrev pub invariant-loop-listed : goal.invariant-loop-listed
invariant-loop-listed l = l.owned.items ≡ spec.row_stated l.attributes (take l.listed-index l.row)
