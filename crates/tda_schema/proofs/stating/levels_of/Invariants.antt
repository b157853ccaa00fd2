use Rattle.std.proofs.Common.{◌≡◌, take, map}
use Rattle.tda_schema.specs.Stating as spec
use Rattle.tda_schema.proofs.stating.levels_of.Given as goal

abbrev pub invariant-loop-level : goal.invariant-loop-level
invariant-loop-level l = l.owned.items ≡ map (spec.level_stated l.schema) (take l.level-index l.levels)
