use Rattle.std.proofs.Common.{sum_by}
use Rattle.tda_model.specs.Spine.{children_of}
use Rattle.tda_out.specs.Counts.{count_at}
use Rattle.tda_hist.specs.Tally.{HasTable}
use Rattle.tda_hist.proofs.counting.sum_children.Given as goal

abbrev pub invariant-loop-cell : goal.invariant-loop-cell
invariant-loop-cell l = HasTable l.schema l.spine l.fn.tables l.tables l.unit l.cell (λ j. sum_by (λ c. count_at l.fn.tables c j) (children_of l.spine l.unit))
