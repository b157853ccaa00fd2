use Rattle.std.proofs.Common.{◌≡◌, ◌++◌, map}
use Rattle.std.specs.Vec.Iter.{into_iter_items}
use Rattle.tda_schema.specs.Classes as classes
use Rattle.tda_schema.proofs.finish.parts_of_queries.Given as goal

abbrev pub invariant-loop-family : goal.invariant-loop-family
invariant-loop-family l = l.queries.items ++ map classes.family_parts (into_iter_items l.family-iterator) ≡ map classes.family_parts l.fn.families.items
