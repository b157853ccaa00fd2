use Rattle.std.proofs.Common.{◌≡◌, ◌∷◌, map, take}
use Rattle.tda_schema.proofs.finish.lend.Given as goal

abbrev pub invariant-loop-query : goal.invariant-loop-query
invariant-loop-query l = map (λ f. f.now) l.families.items ≡ l.whole ∷ l.kinds ∷ take l.query-index l.queries
