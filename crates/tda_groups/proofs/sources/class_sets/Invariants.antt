use Rattle.std.proofs.Common.{◌≡◌}
use Rattle.tda_model.specs.Cells.{cell_count, is_possible}
use Rattle.tda_schema.specs.Stated.{query_at, class_of}
use Rattle.tda_groups.proofs.Buckets.{buckets}
use Rattle.tda_groups.proofs.sources.class_sets.Given as goal

abbrev pub invariant-loop-cell : goal.invariant-loop-cell
invariant-loop-cell l = l.sets.items ≡ buckets (is_possible l.schema) (class_of l.schema (query_at l.schema l.level l.query)) (cell_count l.schema) l.cell
