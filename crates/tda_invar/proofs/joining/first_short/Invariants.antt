use Rattle.std.proofs.Common.{◌≡◌}
use Rattle.tda_model.specs.Schema.{Schema}
use Rattle.tda_model.specs.Spine.{units_at}
use Rattle.tda_spine.proofs.Firsts.{FailsBefore}
use Rattle.tda_invar.specs.KindTable.{NumberTable}
use Rattle.tda_invar.specs.Known.{known, is_short, lows_of}
use Rattle.tda_invar.proofs.joining.first_short.Given as goal

abbrev pub invariant-loop-place : goal.invariant-loop-place
invariant-loop-place l =
    (s : Schema) (facilities : NumberTable) → l.lows ≡ lows_of s l.spine (known l.spine facilities l.totals)
    → FailsBefore (is_short s l.spine (known l.spine facilities l.totals)) (units_at l.spine 1) l.place
