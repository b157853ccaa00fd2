use Rattle.tda_model.specs.Spine.{unit_numbers}
use Rattle.tda_spine.specs.Judged.{is_childless}
use Rattle.tda_spine.specs.Rows.{spine_in}
use Rattle.tda_spine.proofs.Firsts.{FailsBefore}
use Rattle.tda_spine.proofs.whole.first_childless.Given as goal

abbrev pub invariant-loop-unit : goal.invariant-loop-unit
invariant-loop-unit l = let sp = spine_in l.schema l.rows in FailsBefore (is_childless sp) (unit_numbers sp) l.unit
