use Rattle.std.proofs.Common.{◌≡◌}
use Rattle.tda_model.specs.Cells.{is_possible, kind_of}
use Rattle.tda_model.specs.Groups.{kind_count}
use Rattle.tda_groups.proofs.Buckets.{buckets}
use Rattle.tda_groups.proofs.sources.kind_sets.Given as goal

abbrev pub invariant-loop-cell : goal.invariant-loop-cell
invariant-loop-cell l = l.sets.items ≡ buckets (is_possible l.schema) (kind_of l.schema) (kind_count l.schema) l.cell
