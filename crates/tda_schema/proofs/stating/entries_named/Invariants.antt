use Rattle.std.proofs.Common.{◌≡◌, take, map}
use Rattle.tda_schema.specs.Stated.{entry_of}
use Rattle.tda_schema.specs.Stating as spec
use Rattle.tda_schema.proofs.stating.entries_named.Given as goal

abbrev pub invariant-loop-name : goal.invariant-loop-name
invariant-loop-name l = map entry_of l.entries.items ≡ map (spec.entry_stated l.schema) (map (λ n. n.now) (take l.name-index l.names))
