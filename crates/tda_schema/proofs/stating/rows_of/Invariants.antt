use Rattle.std.proofs.Common.{◌≡◌, take, map}
use Rattle.tda_schema.specs.Stating as spec
use Rattle.tda_schema.proofs.stating.rows_of.Given as goal

abbrev pub invariant-loop-row : goal.invariant-loop-row
invariant-loop-row l = map (λ r. r.items) l.owned.items ≡ map (spec.row_stated l.attributes) (map (λ r. r.items) (take l.row-index l.rows))
