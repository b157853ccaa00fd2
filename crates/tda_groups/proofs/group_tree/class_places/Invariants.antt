use Rattle.std.proofs.Common.{◌≡◌, map, take}
use Rattle.tda_schema.specs.Stated.{queries_at}
use Rattle.tda_groups.specs.Sources.{class_sets}
use Rattle.tda_groups.specs.Tree.{place_in}
use Rattle.tda_groups.proofs.group_tree.class_places.Given as goal

abbrev pub invariant-loop-query : goal.invariant-loop-query
invariant-loop-query l = map (λ row. row.items) l.classes.items ≡ map (λ q. map (place_in l.chains) (class_sets l.schema q)) (take l.query (queries_at l.schema l.level))
