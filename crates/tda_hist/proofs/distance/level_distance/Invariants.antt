use Rattle.std.proofs.Common.{◌≡◌, take, sum_by}
use Rattle.tda_model.specs.Groups.{classes_of}
use Rattle.tda_model.specs.Spine.{units_at}
use Rattle.tda_schema.specs.Stated.{query_at}
use Rattle.tda_hist.specs.Distance.{unit_gap}
use Rattle.tda_hist.proofs.distance.level_distance.Given as goal

abbrev pub invariant-loop-unit : goal.invariant-loop-unit
invariant-loop-unit l = l.sum ≡ sum_by (unit_gap l.first l.second (classes_of l.schema (query_at l.schema l.level l.query))) (take l.unit-index (units_at l.spine l.level))
