use Rattle.tda_model.specs.Spine.{parents_of}
use Rattle.tda_spine.proofs.Firsts.{FailsBefore}
use Rattle.tda_spine.proofs.Fits.{is_large_split}
use Rattle.tda_spine.proofs.spine.Spine.first_large_fit.Given as goal

abbrev pub invariant-loop-parent : goal.invariant-loop-parent
invariant-loop-parent l = FailsBefore (is_large_split l.schema l.self) (parents_of l.self) l.parent-index
