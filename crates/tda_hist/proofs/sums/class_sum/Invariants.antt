use Rattle.std.proofs.Common.{◌≡◌, ◌-◌, ◌*◌, ◌≤◌, cond, sum_by}
use Rattle.std.specs.List.{range_with_len}
use Rattle.tda_model.specs.Bounds.{persons_limit}
use Rattle.tda_model.specs.Groups.{class_cells}
use Rattle.tda_out.specs.Counts.{count_at}
use Rattle.tda_schema.specs.Parts.{holds}
use Rattle.tda_schema.specs.Stated.{query_at}
use Rattle.tda_hist.proofs.sums.class_sum.Given as goal

abbrev pub invariant-loop-cell : goal.invariant-loop-cell
invariant-loop-cell l = record {
  sum : l.sum ≡ sum_by (λ j. cond (holds (class_cells l.schema (query_at l.schema l.level l.place.query) l.place.class) j) (count_at l.tables l.place.unit j) 0) (range_with_len l.place.class (l.cell - l.place.class));
  limit : l.sum ≤ (l.cell - l.place.class) * persons_limit;
}
