use Rattle.std.proofs.Common.{◌≡◌, map, take}
use Rattle.tda_schema.specs.Classes as spec
use Rattle.tda_schema.specs.Stated.{entry_of}
use Rattle.tda_schema.proofs.classes.entries_family.Given as goal

abbrev pub invariant-loop-entry : goal.invariant-loop-entry
invariant-loop-entry l = l.family ≡ spec.entries_family l.stated (take l.entry-index (map entry_of l.by))
