use Rattle.std.proofs.Common.{◌≡◌, ◌*◌, ◌≤◌, ◌^◌, length, take}
use Rattle.tda_model.specs.Cells.{cell_count}
use Rattle.tda_model.specs.Commons.{common_of}
use Rattle.tda_model.specs.Deviation.{deviation_from}
use Rattle.tda_model.specs.Spine.{level_of}
use Rattle.tda_schema.specs.Stated.{queries_at}
use Rattle.tda_places.specs.Places.{place}
use Rattle.tda_places.specs.Measurements.{measured_at}
use Rattle.tda_out.specs.Counts.{count_at}
use Rattle.tda_fitnet.specs.Fits.{curve_of}
use Rattle.tda_audit.proofs.distance.unit_deviation.Given as goal

abbrev pub invariant-loop-query : goal.invariant-loop-query
invariant-loop-query g l = record {
  size : length l.counts ≡ cell_count l.schema;
  sum_is : l.sum ≡ deviation_from (curve_of l.loss.curve) l.schema (common_of l.schema) 0 (take l.query (queries_at l.schema (level_of l.spine l.unit))) (λ q c. measured_at l.schema l.spine l.m (place l.unit q c)) (count_at l.tables l.unit);
  small : l.sum ≤ l.query * 2 ^ 100;
}
