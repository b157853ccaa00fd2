use Rattle.std.proofs.Common.{◌≡◌, ◌≤◌, take, count_by}
use Rattle.tda_model.specs.Spine.{is_at, unit_numbers}
use Rattle.tda_spine.specs.Rows.{spine_in}
use Rattle.tda_spine.proofs.whole.has_no_nation.Given as goal

abbrev pub invariant-loop-unit : goal.invariant-loop-unit
invariant-loop-unit l =
    let sp = spine_in l.schema l.rows in
    (l.nations ≡ count_by (is_at sp 0) (take l.unit (unit_numbers sp))) × (l.nations ≤ l.unit)
