use Rattle.std.proofs.Common.{◌≡◌, ◌*◌, ◌≤◌, ◌^◌, pos, ◌-ℤ◌, get_or, take}
use Rattle.std.specs.List.{sum_by}
use Rattle.tda_model.specs.Commons.{common_of}
use Rattle.tda_model.specs.Deviation.{weight_of}
use Rattle.tda_model.specs.Groups.{classes_of}
use Rattle.tda_model.specs.Spine.{level_of}
use Rattle.tda_schema.specs.Stated.{query_at}
use Rattle.tda_places.specs.Places.{place}
use Rattle.tda_places.specs.Measurements.{measured_at}
use Rattle.tda_fitnet.specs.Fits.{curve_of}
use Rattle.tda_audit.proofs.distance.query_deviation.Given as goal

abbrev pub invariant-loop-class : goal.invariant-loop-class
invariant-loop-class g l = record {
  sum_is : l.sum ≡ sum_by (λ c. weight_of (common_of l.schema) (query_at l.schema (level_of l.spine l.unit) l.query) * curve_of l.loss.curve (pos (get_or l.counts c 0) -ℤ measured_at l.schema l.spine l.m (place l.unit l.query c)))
      (take l.class-index (classes_of l.schema (query_at l.schema (level_of l.spine l.unit) l.query)));
  small : l.sum ≤ l.class-index * 2 ^ 88;
}
