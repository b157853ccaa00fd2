use Rattle.std.proofs.Common.{◌≡◌, take, map}
use Rattle.tda_schema.specs.Stating as spec
use Rattle.tda_schema.proofs.stating.recodes_of.Given as goal

abbrev pub invariant-loop-recode : goal.invariant-loop-recode
invariant-loop-recode l = l.owned.items ≡ map (spec.recode_stated l.attributes) (take l.recode-index l.recodes)
