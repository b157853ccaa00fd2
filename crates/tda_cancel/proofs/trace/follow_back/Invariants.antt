use Rattle.tda_cancel.specs.Rows.{IsTable}
use Rattle.tda_cancel.proofs.Traced.{IsFollowing}
use Rattle.tda_cancel.proofs.trace.follow_back.Given as goal

abbrev pub invariant-loop-marks : goal.invariant-loop-marks
invariant-loop-marks l = (t : IsTable l.steps l.nodes l.lasts l.nodes) × IsFollowing l.steps t.0 l.nodes l.marks l.walk l.at l.row

abbrev pub decreases-loop-marks : goal.decreases-loop-marks
decreases-loop-marks l = l.row
