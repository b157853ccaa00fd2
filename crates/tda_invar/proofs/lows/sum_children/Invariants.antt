use Rattle.std.proofs.Common.{sum_by}
use Rattle.tda_model.specs.Spine.{children_of}
use Rattle.tda_invar.specs.KindTable.{number_at, HasRow}
use Rattle.tda_invar.proofs.lows.sum_children.Given as goal

abbrev pub invariant-loop-kind : goal.invariant-loop-kind
invariant-loop-kind l = HasRow l.fn.numbers l.numbers l.unit l.kind (λ k. sum_by (λ c. number_at l.fn.numbers c k) (children_of l.spine l.unit))
