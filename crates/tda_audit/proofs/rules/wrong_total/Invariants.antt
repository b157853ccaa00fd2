use Rattle.tda_model.specs.Spine.{units_at}
use Rattle.tda_spine.proofs.Firsts.{FailsBefore}
use Rattle.tda_invar.specs.Known.{known_of}
use Rattle.tda_out.specs.Counts.{count_at}
use Rattle.tda_audit.specs.Verdicts.{breaks}
use Rattle.tda_audit.specs.declared.verdict.Verdict.TheVariants.{Total}
use Rattle.tda_audit.proofs.rules.wrong_total.Given as goal

abbrev pub invariant-loop-state : goal.invariant-loop-state
invariant-loop-state l = FailsBefore (λ st. breaks l.schema l.spine (known_of l.spine l.inv) (count_at l.tables) (Total st)) (units_at l.spine 1) l.state-index
