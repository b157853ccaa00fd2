use Rattle.std.proofs.Common.{◌≡◌, length, take, sum_by}
use Rattle.tda_schema.proofs.groups.count_places.Given as goal

abbrev pub invariant-loop-query : goal.invariant-loop-query
invariant-loop-query l = l.places ≡ sum_by (λ q. length q.classes) (take l.query-index l.queries)
