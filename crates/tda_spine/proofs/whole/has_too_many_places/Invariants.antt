use Rattle.std.proofs.Common.{◌≡◌, ◌+◌, ◌^◌, take, sum_by}
use Rattle.tda_model.specs.Spine.{unit_numbers}
use Rattle.tda_spine.specs.Rows.{spine_in}
use Rattle.tda_spine.proofs.Limits.{places_of}
use Rattle.tda_spine.proofs.whole.has_too_many_places.Given as goal

abbrev pub invariant-loop-unit : goal.invariant-loop-unit
invariant-loop-unit l =
    let sp = spine_in l.schema l.rows in l.left + sum_by (places_of l.schema sp) (take l.unit (unit_numbers sp)) ≡ 2 ^ 21
