use Rattle.std.proofs.Common.{◌≡◌, take, map}
use Rattle.tda_schema.specs.Stating as spec
use Rattle.tda_schema.proofs.stating.queries_of.Given as goal

abbrev pub invariant-loop-query : goal.invariant-loop-query
invariant-loop-query l = l.owned.items ≡ map (spec.query_stated l.schema) (take l.query-index l.queries)
