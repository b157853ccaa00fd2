use Rattle.std.proofs.Common.{◌≡◌, ◌++◌, take}
use Rattle.std.specs.List.{flat_map}
use Rattle.tda_schema.specs.Stated.{queries_at}
use Rattle.tda_groups.specs.Sources.{class_sets}
use Rattle.tda_groups.proofs.sources.append_classes.Given as goal

abbrev pub invariant-loop-query : goal.invariant-loop-query
invariant-loop-query l = l.sets.items ≡ l.initial.sets.items ++ flat_map (class_sets l.schema) (take l.query (queries_at l.schema l.level))
