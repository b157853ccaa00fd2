use Rattle.std.proofs.Common.{◌≡◌, map, take}
use Rattle.tda_schema.specs.Classes as classes
use Rattle.tda_schema.proofs.finish.query_families.Given as goal

abbrev pub invariant-loop-query : goal.invariant-loop-query
invariant-loop-query l = l.families.items ≡ map (classes.query_family l.stated) (take l.query-index l.queries)
